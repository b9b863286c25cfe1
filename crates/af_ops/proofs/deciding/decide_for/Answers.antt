use Rattle.std.proofs.Common.{◌≡◌, sym, subst, rules}
use Rattle.std.specs.Prelude.{Option, None}
use Rattle.af_role.specs.declared.need.Need.{Need}
use Rattle.af_policy.specs.Grants.{first_unmet}
use Rattle.af_policy.specs.Views.{held}
use Rattle.af_ops.specs.Decisions.{IsDecided}
use Rattle.af_ops.specs.Endpoints.{dag_of}
use Rattle.af_ops.specs.Required.{needs_for}
use Rattle.af_ops.specs.Verdicts.{dag_ids, permitted}
use Rattle.af_ops.proofs.deciding.decide_for.Goals as goal

pub returns-in-None-clause-verdict : goal.returns-in-None-clause-verdict
returns-in-None-clause-verdict c =
    let none : first_unmet (held c.args.view.now) (dag_of c.args.op.now) (dag_ids c.args.state.now.rows) (needs_for c.args.op.now) ≡ None = search rules in
    subst (λ (need : Option Need). IsDecided c.args.op.now c.args.state.now.rows (permitted c.args.limit (held c.args.view.now) (record { under = c.args.under; state = c.args.state.now.rows }) c.args.op.now c.args.now need) c.permitted.result) (sym none) c.permitted.ensures.verdict
