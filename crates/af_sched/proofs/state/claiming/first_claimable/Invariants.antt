use Rattle.std.proofs.Common.{◌≡◌, ◌++◌, List}
use Rattle.af_runs.specs.Busy.{holders_of}
use Rattle.af_runs.specs.declared.run.Run.{Run}
use Rattle.af_sched.specs.Claims.{is_claimable}
use Rattle.af_sched.specs.Placed.{IsFirstOf, placed_in}
use Rattle.af_sched.proofs.state.claiming.first_claimable.Given as goal

abbrev pub invariant-loop-run : goal.invariant-loop-run
invariant-loop-run l =
    (seen : List Run) × (seen ++ l.run-iterator ≡ holders_of l.runs.rows) × IsFirstOf is_claimable (placed_in l.dags seen) l.first
