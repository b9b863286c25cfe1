use Rattle.std.proofs.Common.{◌≡◌, ◌++◌, List, true}
use Rattle.af_runs.specs.Clears.{are_left_by}
use Rattle.af_runs.specs.Runs.{runs_of}
use Rattle.af_runs.specs.declared.run.Run.{Run}
use Rattle.af_runs.proofs.runs.clearing.is_each_left.Given as goal

abbrev pub invariant-loop-run : goal.invariant-loop-run
invariant-loop-run l =
    (seen : List Run) × (seen ++ l.run-iterator ≡ runs_of l.runs.rows l.filter.dag_id) × (are_left_by l.filter l.selection seen ≡ true)
