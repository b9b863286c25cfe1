use Rattle.std.proofs.Common.{take}
use Rattle.std.specs.Int.Signed.{◌≤ℤ◌}
use Rattle.af_sched.specs.Weights.{NoTaskIsHeavier}
use Rattle.af_sched.proofs.dag_table.heaviest_of.Given as goal

abbrev pub invariant-loop-task : goal.invariant-loop-task
invariant-loop-task l = (l.weight ≤ℤ l.heaviest) × NoTaskIsHeavier l.heaviest (take l.task-index l.tasks)
