use Rattle.std.proofs.Common.{◌≡◌, ap, subst, Bool}
use Rattle.std.specs.Option.{option_copied}
use Rattle.af_base.specs.Readings.{seen}
use Rattle.af_role.specs.Pairs.{PairRow}
use Rattle.af_policy.specs.Grants.{grants}
use Rattle.af_policy.specs.Identity.{bearer_of}
use Rattle.af_policy.specs.Views.{held}
use Rattle.af_sched.specs.State.{StateRows}
use Rattle.af_ops.specs.Decisions.{IsDecided}
use Rattle.af_ops.specs.Prepared.{told_alone}
use Rattle.af_ops.specs.Standings.{StandingRows}
use Rattle.af_ops.specs.Verdicts.{Verdict, granted_verdict, judged}
use Rattle.af_audit.specs.Ledgers.{LedgerRows}
use Rattle.af_audit.proofs.ledger.Ledger.read.Goals as goal

pub returns-in-Some : goal.returns-in-Some
returns-in-Some c = λ limit under.
    let same : held c.in-Some.bearer.view ≡ grants c.args.policy.now c.in-Some.bearer.user.now = λ i. λ pair. c.in-Some.ensures.held pair i in
    let standing : StandingRows = record { under = under; state = c.args.self.now.state } in
    let users : granted_verdict limit (grants c.args.policy.now c.in-Some.bearer.user.now) standing c.args.op.now c.args.now ≡ judged limit c.args.policy.now standing c.args.op.now c.args.now (bearer_of c.args.policy.now (option_copied c.args.token)) =
    ap (judged limit c.args.policy.now standing c.args.op.now c.args.now) c.in-Some.ensures.user in
    let read : IsDecided c.args.op.now c.args.self.now.state (granted_verdict limit (held c.in-Some.bearer.view) standing c.args.op.now c.args.now) (seen told_alone c.read_for.result) =
    subst (λ (s : StateRows). IsDecided c.args.op.now s (granted_verdict limit (held c.in-Some.bearer.view) (record { under = under; state = s }) c.args.op.now c.args.now) (seen told_alone c.read_for.result)) (ap (λ (l : LedgerRows). l.state) c.self.view_is)
    (c.read_for.ensures.verdict limit under) in
    subst (λ (v : Verdict). IsDecided c.args.op.now c.args.self.now.state v (seen told_alone c.read_for.result)) users
    (subst (λ (granted : PairRow → Bool). IsDecided c.args.op.now c.args.self.now.state (granted_verdict limit granted standing c.args.op.now c.args.now) (seen told_alone c.read_for.result)) same read)
