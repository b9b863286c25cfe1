use Rattle.std.proofs.Common.{◌≡◌, take}
use Rattle.af_sched.proofs.dag_table.DagTable.copied.Given as goal

abbrev pub invariant-loop-row : goal.invariant-loop-row
invariant-loop-row l = l.copy ≡ take l.row-index l.self
