use Rattle.std.proofs.Common.{◌≡◌, sym, subst, rules}
use Rattle.std.specs.Prelude.{Option, None}
use Rattle.af_base.specs.Readings.{seen}
use Rattle.af_role.specs.declared.need.Need.{Need}
use Rattle.af_policy.specs.Grants.{first_unmet}
use Rattle.af_policy.specs.Views.{held}
use Rattle.af_ops.specs.Decisions.{IsDecided}
use Rattle.af_ops.specs.Endpoints.{dag_of}
use Rattle.af_ops.specs.Prepared.{told_alone}
use Rattle.af_ops.specs.Required.{needs_for}
use Rattle.af_ops.specs.Verdicts.{dag_ids, permitted}
use Rattle.af_ops.proofs.deciding.read_for.Goals as goal

pub returns : goal.returns
returns c =
    let none : first_unmet (held c.args.view.now) (dag_of c.args.op.now) (dag_ids c.args.state.now.rows) (needs_for c.args.op.now) ≡ None = search rules in
    record {
      verdict = λ limit under.
          subst (λ (need : Option Need). IsDecided c.args.op.now c.args.state.now.rows (permitted limit (held c.args.view.now) (record { under = under; state = c.args.state.now.rows }) c.args.op.now c.args.now need) (seen told_alone c.permitted_read.result)) (sym none) (c.permitted_read.ensures.verdict limit under);
    }
