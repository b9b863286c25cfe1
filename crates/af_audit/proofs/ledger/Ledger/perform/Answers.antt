use Rattle.std.proofs.Common.{◌≡◌, ap, subst, Bool}
use Rattle.std.specs.Option.{option_copied}
use Rattle.af_role.specs.Pairs.{PairRow}
use Rattle.af_policy.specs.Grants.{grants}
use Rattle.af_policy.specs.Views.{held}
use Rattle.af_ops.specs.Verdicts.{Verdict, granted_verdict, judged}
use Rattle.af_audit.specs.Answered.{IsPerformed, closed_verdict, standing_of}
use Rattle.af_audit.proofs.ledger.Ledger.perform.Goals as goal

pub returns-in-Some-clause-performed : goal.returns-in-Some-clause-performed
returns-in-Some-clause-performed c =
    let here = c.args.self.now in
    let same : held c.in-Some.bearer.view ≡ grants c.args.policy.now c.in-Some.bearer.user.now = λ i. λ pair. c.in-Some.ensures.held pair i in
    let users : granted_verdict here.audit.limit (grants c.args.policy.now c.in-Some.bearer.user.now) (standing_of here) c.args.op.now c.args.now ≡ closed_verdict c.args.policy.now here (option_copied c.args.token) c.args.op.now c.args.now =
    ap (judged here.audit.limit c.args.policy.now (standing_of here) c.args.op.now c.args.now) c.in-Some.ensures.user in
    (subst (λ (v : Verdict). IsPerformed c.args.op.now v (standing_of here) c.judged.result (standing_of c.judged.new.self)) users
    (subst (λ (granted : PairRow → Bool). IsPerformed c.args.op.now (granted_verdict here.audit.limit granted (standing_of here) c.args.op.now c.args.now) (standing_of here) c.judged.result (standing_of c.judged.new.self)) same c.judged.ensures.performed))
