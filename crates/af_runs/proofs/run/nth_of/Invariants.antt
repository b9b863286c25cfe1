use Rattle.std.proofs.Common.{◌≡◌, drop}
use Rattle.std.specs.Prelude.{slice_get}
use Rattle.af_runs.specs.Runs.{runs_of}
use Rattle.af_runs.proofs.run.nth_of.Given as goal

abbrev pub invariant-loop-run : goal.invariant-loop-run
invariant-loop-run l = slice_get (runs_of (drop l.run-index l.runs) l.dag_id) l.left ≡ slice_get (runs_of l.runs l.dag_id) l.place
