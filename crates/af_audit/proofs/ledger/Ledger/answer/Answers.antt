use Rattle.std.proofs.Common.{◌≡◌, ◌∙◌, ap, subst, sym, false}
use Rattle.std.specs.Option.{option_copied}
use Rattle.af_ops.specs.declared.answer.Under as under
use Rattle.af_ops.specs.declared.served.Served.TheVariants as served
use Rattle.af_ops.specs.Decisions.{fault_verdict}
use Rattle.af_ops.specs.Endpoints.{endpoint_of}
use Rattle.af_ops.specs.Served.{IsServed}
use Rattle.af_ops.specs.Standings.{StandingRows}
use Rattle.af_ops.specs.Table.{RouteRow, is_open, route_of}
use Rattle.af_ops.specs.Verdicts.{Verdict}
use Rattle.af_audit.specs.Answered.{closed_verdict, standing_of, verdict_on}
use Rattle.af_audit.proofs.JudgedLemmas.{closed_is, served_fault}
use Rattle.af_audit.proofs.ledger.Ledger.answer.Goals as goal

pub returns-in-Ok-clause-served : goal.returns-in-Ok-clause-served
returns-in-Ok-clause-served c =
    let closed : is_open (endpoint_of c.args.op.now) ≡ false =
    ap (λ (r : RouteRow). r.is_open) (sym (c.route_of.ensures ∙ ap route_of c.endpoint.ensures) ∙ sym c.route_of-2.view_is) ∙ c.if-route_of.false in
    subst (λ (v : Verdict). IsServed c.args.op.now v (standing_of c.args.self.now) (served.Shown c.in-Ok.shown) (standing_of c.perform.new.self))
    (closed_is c.args.policy.now c.args.self.now (option_copied c.args.token) c.args.op.now c.args.now closed) c.in-Ok.ensures.performed

pub returns-in-Err-clause-served : goal.returns-in-Err-clause-served
returns-in-Err-clause-served c =
    let closed : is_open (endpoint_of c.args.op.now) ≡ false =
    ap (λ (r : RouteRow). r.is_open) (sym (c.route_of.ensures ∙ ap route_of c.endpoint.ensures) ∙ sym c.route_of-2.view_is) ∙ c.if-route_of.false in
    let told : IsServed c.args.op.now (closed_verdict c.args.policy.now c.args.self.now (option_copied c.args.token) c.args.op.now c.args.now) (standing_of c.args.self.now) c.refused.result (standing_of c.args.self.now) =
    served_fault c.args.op.now _ (standing_of c.args.self.now) c.in-Err.fault c.refused.result c.in-Err.ensures.performed.0
    (subst (λ (u : under.Under). IsServed c.args.op.now (fault_verdict c.in-Err.fault) (record { under = u; state = c.args.self.now.state }) c.refused.result (record { under = u; state = c.args.self.now.state })) c.under-under.ensures (c.refused.ensures.served c.args.self.now.state)) in
    subst (λ (s : StandingRows). IsServed c.args.op.now (verdict_on c.args.policy.now c.args.self.now (option_copied c.args.token) c.args.op.now c.args.now) (standing_of c.args.self.now) c.refused.result s) (sym c.in-Err.ensures.performed.1)
    (subst (λ (v : Verdict). IsServed c.args.op.now v (standing_of c.args.self.now) c.refused.result (standing_of c.args.self.now))
    (closed_is c.args.policy.now c.args.self.now (option_copied c.args.token) c.args.op.now c.args.now closed) told)
