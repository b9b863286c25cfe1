use Rattle.std.proofs.Common.{arith}
use Rattle.af_base.proofs.TakingLemmas.{item_taken, items_taken}
use Rattle.af_server.specs.DagRows.{dag_taken}
use Rattle.af_server.proofs.config.lists.add_dags.Goals as goal

pub loop-row-preserved : goal.loop-row-preserved
loop-row-preserved c =
    item_taken dag_taken c.args.rows.now _ c.loop-row.row-index c.row-item.result c.loop-row.draft c.add_dag.new.draft (omega arith) c.row-item.is c.in_ok-add_dag.ensures c.loop-row.invariant

pub returns : goal.returns
returns c =
    items_taken dag_taken c.args.rows.now _ c.loop-row.row-index c.loop-row.draft (omega arith) c.loop-row.invariant
