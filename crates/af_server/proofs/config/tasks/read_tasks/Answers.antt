use Rattle.std.proofs.Common.{arith}
use Rattle.af_base.proofs.TakingLemmas.{item_taken, items_taken}
use Rattle.af_server.specs.Tasks.{task_taken}
use Rattle.af_server.proofs.config.tasks.read_tasks.Goals as goal

pub loop-row-preserved : goal.loop-row-preserved
loop-row-preserved c =
    item_taken (task_taken c.args.pools.now c.args.dag_id.now) c.args.rows.now _ c.loop-row.row-index c.row-item.result c.loop-row.read c.add_task.new.read (omega arith) c.row-item.is c.in_ok-add_task.ensures c.loop-row.invariant

pub returns : goal.returns
returns c =
    items_taken (task_taken c.args.pools.now c.args.dag_id.now) c.args.rows.now _ c.loop-row.row-index c.loop-row.read (omega arith) c.loop-row.invariant
