-- What the last four phases of a tick do to runs. No public contract cites this file.
use Rattle.std.specs.Prelude.{ℕ, ◌≡◌, List, map}
use Rattle.std.specs.List.{AllZip}
use Rattle.af_pool.specs.declared.pool.Pool.{Pool}
use Rattle.af_runs.specs.declared.run.Run.{Run}
use Rattle.af_sched.specs.Finish.{finished_run}
use Rattle.af_sched.specs.Queue.{QueuesRuns}
use Rattle.af_sched.specs.Settle.{SettlesIfLive}
use Rattle.af_sched.specs.Start.{started_runs}
use Rattle.af_sched.specs.State.{tasks_of}
use Rattle.af_sched.specs.declared.dag_row.DagRow.{DagRow}

-- the runs after the fifth phase
abbrev pub finished_runs : ℕ → List DagRow → List Run → List Run
finished_runs t dags runs = map (λ run. finished_run t (tasks_of dags run.dag_id) run) runs

-- the runs before the second phase and after the fifth
pub record MovesOn (t : ℕ) (dags : List DagRow) (pools : List Pool) (old new : List Run) : Type 0 where
  pub settled : List Run
  pub queued : List Run
  pub settles : AllZip (SettlesIfLive t dags) (started_runs t dags old) settled
  pub queues : QueuesRuns dags pools settled queued
  pub ends : new ≡ finished_runs t dags queued
