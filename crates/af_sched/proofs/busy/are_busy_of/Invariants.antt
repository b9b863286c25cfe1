use Rattle.std.proofs.Common.{◌≡◌, ◌≤◌, ◌++◌, take, length}
use Rattle.af_runs.specs.Busy.{busy_of}
use Rattle.af_sched.proofs.busy.are_busy_of.Given as goal

abbrev pub invariant-loop-run : goal.invariant-loop-run
invariant-loop-run l =
    (l.place ≤ length l.moved) × (take l.place l.moved ++ l.run-iterator ≡ busy_of l.runs.rows)
