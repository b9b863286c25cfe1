use Rattle.std.proofs.Common.{◌≡◌, ◌++◌, List}
use Rattle.af_runs.specs.Clears.{chosen_in}
use Rattle.af_runs.specs.Runs.{runs_of}
use Rattle.af_runs.specs.declared.run.Run.{Run}
use Rattle.af_runs.proofs.runs.clearing.chosen_in_each.Given as goal

abbrev pub invariant-loop-run : goal.invariant-loop-run
invariant-loop-run l =
    (seen : List Run) × (seen ++ l.run-iterator ≡ runs_of l.runs.rows l.filter.dag_id) × (l.all.items ≡ chosen_in seen l.filter l.selection)
