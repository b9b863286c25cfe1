use Rattle.std.proofs.Common.{◌≡◌, ◌<◌, ◌≤◌, ℕ, get_or}
use Rattle.af_runs.specs.declared.run.Run.{Run}
use Rattle.af_sched.specs.Finish.{finished_run}
use Rattle.af_sched.specs.State.{tasks_of}
use Rattle.af_sched.proofs.tick.finish.finish_all.Given as goal

abbrev pub invariant-loop-run : goal.invariant-loop-run
invariant-loop-run l =
    ((k : ℕ) (d : Run) → k < l.run-index → get_or l.runs k d ≡ finished_run l.at (tasks_of l.dags (get_or l.initial.runs k d).dag_id) (get_or l.initial.runs k d))
    × ((k : ℕ) (d : Run) → l.run-index ≤ k → get_or l.runs k d ≡ get_or l.initial.runs k d)
