use Rattle.std.proofs.Common.{◌≡◌, ◌++◌, List}
use Rattle.af_runs.specs.Busy.{holders_of}
use Rattle.af_runs.specs.declared.run.Run.{Run}
use Rattle.af_sched.specs.Counting.{counts_of}
use Rattle.af_sched.specs.Placed.{placed_in}
use Rattle.af_sched.proofs.counting.count_runs.Given as goal

abbrev pub invariant-loop-run : goal.invariant-loop-run
invariant-loop-run l =
    (seen : List Run) × (seen ++ l.run-iterator ≡ holders_of l.runs.rows) × (l.counts ≡ counts_of (placed_in l.dags seen) l.pools)
