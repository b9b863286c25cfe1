use Rattle.af_ops.proofs.TaskLemmas.{no_row}
use Rattle.af_ops.proofs.task_text.downstream.Goals as goal

pub returns-else-place-tasks : goal.returns-else-place-tasks
returns-else-place-tasks c = no_row c.args.dag.now.tasks c.tasks.result.now c.args.place c.tasks.ensures c.if-place-tasks.false
