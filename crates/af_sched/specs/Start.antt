-- The second phase of a tick: queued runs become running while their DAG has room for them (Airflow 2, "DAGs":
-- max_active_runs). Runs are taken by number.
use Rattle.std.specs.Prelude.{ℕ, ◌+◌, ◌&&◌, Bool, true, false, List, map, count_by, nat_lt, Some, if◌then◌else◌}
use Rattle.af_runs.specs.Runs.{is_of}
use Rattle.af_runs.specs.declared.run.Run.{Run}
use Rattle.af_runs.specs.declared.run_state.RunState.{RunState}
use Rattle.af_runs.specs.declared.run_state.RunState.TheVariants.{Queued, Running}
use Rattle.af_sched.specs.State.{StateRows, is_unpaused, most_running}
use Rattle.af_sched.specs.declared.dag_row.DagRow.{DagRow}

abbrev pub is_queued : RunState → Bool
is_queued Queued = true
is_queued _ = false

abbrev pub is_running : RunState → Bool
is_running Running = true
is_running _ = false

-- how many runs of a DAG are running
abbrev pub running_of : List Run → List ℕ → ℕ
running_of runs dag_id = count_by (λ run. is_of dag_id run && is_running run.state) runs

-- how many runs of a run's DAG are queued and have a smaller number
abbrev pub queued_before : List Run → Run → ℕ
queued_before runs run = count_by (λ other. is_of run.dag_id other && is_queued other.state && nat_lt other.number run.number) runs

-- whether a run starts: it is queued, its DAG is not paused, and the DAG's running runs and those of its queued runs
-- that stand before this one are together fewer than may be running
abbrev pub starts : List DagRow → List Run → Run → Bool
starts dags runs run =
    is_queued run.state && is_unpaused dags run.dag_id
    && nat_lt (running_of runs run.dag_id + queued_before runs run) (most_running dags run.dag_id)

-- a run that starts at t
abbrev pub started_run : ℕ → Run → Run
started_run t run = record run { state = Running; start_date = Some t }

-- the runs after the phase
abbrev pub started_runs : ℕ → List DagRow → List Run → List Run
started_runs t dags runs = map (λ run. if starts dags runs run then started_run t run else run) runs

-- the state after the phase
abbrev pub started : ℕ → StateRows → StateRows
started t state = record state { runs = started_runs t state.dags state.runs }
