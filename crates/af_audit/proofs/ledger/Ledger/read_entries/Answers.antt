use Rattle.std.proofs.Common.{◌≡◌, ap, subst, Bool}
use Rattle.std.specs.Prelude.{Some}
use Rattle.std.specs.Option.{option_copied}
use Rattle.af_role.specs.Pairs.{PairRow}
use Rattle.af_policy.specs.Grants.{grants}
use Rattle.af_policy.specs.Identity.{bearer_of}
use Rattle.af_policy.specs.Views.{held}
use Rattle.af_ops.specs.Verdicts.{Verdict}
use Rattle.af_audit.specs.Answered.{IsPerformed, standing_of}
use Rattle.af_audit.specs.EventLogs.{entries_granted, entries_judged, nameless}
use Rattle.af_audit.proofs.ledger.Ledger.read_entries.Goals as goal

pub returns-in-Some : goal.returns-in-Some
returns-in-Some c =
    let same : held c.in-Some.bearer.view ≡ grants c.args.policy.now c.in-Some.bearer.user.now = λ i. λ pair. c.in-Some.ensures.held pair i in
    let here : entries_judged c.args.policy.now c.args.self.now c.args.asked.now (Some c.in-Some.bearer.user.now) ≡ entries_judged c.args.policy.now c.args.self.now c.args.asked.now (bearer_of c.args.policy.now (option_copied c.args.token)) =
    ap (entries_judged c.args.policy.now c.args.self.now c.args.asked.now) c.in-Some.ensures.user in
    subst (λ (v : Verdict). IsPerformed nameless v (standing_of c.args.self.now) c.entries_for.result (standing_of c.args.self.now)) here
    (subst (λ (granted : PairRow → Bool). IsPerformed nameless (entries_granted granted c.args.self.now c.args.asked.now) (standing_of c.args.self.now) c.entries_for.result (standing_of c.args.self.now)) same c.entries_for.ensures)
