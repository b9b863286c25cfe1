use Rattle.std.proofs.Common.{ℕ, List, arith}
use Rattle.af_graph.specs.declared.task_spec.TaskSpec.{TaskSpec}
use Rattle.af_ops.specs.Effects.{downstream_ids}
use Rattle.af_ops.specs.Rows.{TaskTold}
use Rattle.af_ops.proofs.TaskLemmas.{numbered_push}
use Rattle.af_ops.proofs.operations.tasks.first_told.Goals as goal

among : List TaskSpec → ℕ × TaskSpec → TaskTold
among all at = record { downstream = downstream_ids all at.0; task = at.1 }

pub loop-place-preserved : goal.loop-place-preserved
unfolding among
loop-place-preserved c =
    numbered_push (among c.args.dag.now.tasks) c.args.tasks.now c.loop-place.place c.index-tasks-place.result c.loop-place.all.items c.push.new.self.items c.told.result
    (omega arith) c.index-tasks-place.is c.loop-place.invariant c.told.ensures c.in_ok-push.ensures.items
