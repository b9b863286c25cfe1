use Rattle.std.proofs.Common.{◌≡◌, ◌++◌}
use Rattle.af_runs.specs.Busy.{busy_of}
use Rattle.af_sched.proofs.busy.busy_of.Given as goal

abbrev pub invariant-loop-run : goal.invariant-loop-run
invariant-loop-run l = l.busy.items ++ l.run-iterator ≡ busy_of l.runs.rows
