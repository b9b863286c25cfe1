use Rattle.af_role.specs.declared.action.Action.TheVariants.{Read}
use Rattle.af_role.specs.declared.dag_part.DagPart.TheVariants.{Itself}
use Rattle.af_role.specs.DagMasks.{row_has}
use Rattle.af_policy.specs.Views.{is_named}
use Rattle.af_policy.proofs.ViewLemmas.{tested_more}
use Rattle.af_policy.proofs.named_dags.add_readable.Goals as goal

pub loop-row-preserved : goal.loop-row-preserved
loop-row-preserved c dag =
    tested_more (row_has Itself dag Read) _ c.loop-row.row-index c.row-item.result c.row-item.is c.loop-row-test.true
    (is_named c.args.named.now.rows dag) (is_named c.loop-row.named.rows dag) (is_named c.add_row.new.named.rows dag)
    (c.loop-row.invariant dag) (c.in_ok-add_row.ensures dag)
