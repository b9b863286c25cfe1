-- The fifth phase of a tick: a run whose instances have all finished ends (Airflow 2, "DAG Runs": DAG Run Status).
use Rattle.std.specs.Prelude.{ℕ, ◌&&◌, ◌==◌, Bool, true, false, List, map, length, Some, if◌then◌else◌}
use Rattle.std.specs.List.{list_any, list_all}
use Rattle.af_graph.specs.Graph.{downstream_of}
use Rattle.af_graph.specs.Rows.{places}
use Rattle.af_graph.specs.States as states
use Rattle.af_graph.specs.declared.task_spec.TaskSpec.{TaskSpec}
use Rattle.af_graph.specs.declared.task_state.TaskState.{TaskState}
use Rattle.af_graph.specs.declared.task_state.TaskState.TheVariants as task_state
use Rattle.af_runs.specs.declared.instance.Instance.{Instance}
use Rattle.af_runs.specs.declared.run.Run.{Run}
use Rattle.af_runs.specs.declared.run_state.RunState.{RunState}
use Rattle.af_runs.specs.declared.run_state.RunState.TheVariants as run_state
use Rattle.af_sched.specs.Settle.{state_at}
use Rattle.af_sched.specs.Start.{is_running}
use Rattle.af_sched.specs.State.{StateRows, tasks_of}

-- whether the instances have all finished
abbrev pub all_finished : List Instance → Bool
all_finished instances = list_all (λ instance. states.is_finished instance.state) instances

-- whether an instance in this state has failed, or never ran since something above it failed
abbrev pub has_failed : TaskState → Bool
has_failed task_state.Failed = true
has_failed task_state.UpstreamFailed = true
has_failed _ = false

-- whether no task stands downstream of that at a place
abbrev pub is_leaf : List TaskSpec → ℕ → Bool
is_leaf tasks place = length (downstream_of tasks place) == 0

-- whether a task without downstream is failed or upstream_failed
abbrev pub some_leaf_failed : List TaskSpec → List Instance → Bool
some_leaf_failed tasks instances = list_any (λ place. is_leaf tasks place && has_failed (state_at instances place)) (places tasks)

-- how a run of these tasks ends
abbrev pub end_state : List TaskSpec → List Instance → RunState
end_state tasks instances = if some_leaf_failed tasks instances then run_state.Failed else run_state.Success

-- whether a run ends: it is running, of a paused DAG too, and its instances have all finished
abbrev pub ends : Run → Bool
ends run = is_running run.state && all_finished run.instances

-- a run that ends at t
abbrev pub ended_run : ℕ → List TaskSpec → Run → Run
ended_run t tasks run = record run { state = end_state tasks run.instances; end_date = Some t }

-- a run of these tasks after the phase
abbrev pub finished_run : ℕ → List TaskSpec → Run → Run
finished_run t tasks run = if ends run then ended_run t tasks run else run

-- the state after the phase
abbrev pub finished : ℕ → StateRows → StateRows
finished t state = record state { runs = map (λ run. finished_run t (tasks_of state.dags run.dag_id) run) state.runs }
