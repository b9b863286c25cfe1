-- The rows that are told (Airflow 2, "Stable REST API"; RFC 9457: faults), each as its members in byte order of their names.
use Rattle.std.specs.Prelude.{ℕ, ◌+◌, ◌-◌, List, [], ◌∷◌, ◌++◌, map, Option, Some, codes}
use Rattle.std.specs.Option.{option_map_or}
use Rattle.serde_json.specs.Data.{Data, null, array, boolean, number, unsigned, string}
use Rattle.serde_json.specs.View.{items_of}
use Rattle.af_names.specs.Presets.{preset_text}
use Rattle.af_graph.specs.Texts.{rule_text}
use Rattle.af_graph.specs.declared.schedule.Schedule.{Schedule}
use Rattle.af_graph.specs.declared.schedule.Points.{Points}
use Rattle.af_graph.specs.declared.schedule.Points.TheVariants as points
use Rattle.serde_json.specs.Find.{of_integer}
use Rattle.af_graph.specs.declared.task_spec.TaskSpec.{TaskSpec}
use Rattle.af_graph.specs.declared.task_state.TaskState.{TaskState}
use Rattle.af_graph.specs.declared.task_state.TaskState.TheVariants.{NoStatus, Scheduled, Queued, Running, Success, Failed, Skipped, UpstreamFailed, UpForRetry}
use Rattle.af_runs.specs.declared.instance.Instance.{Instance}
use Rattle.af_runs.specs.declared.run.Run.{Run}
use Rattle.af_runs.specs.declared.run_state.RunState.{RunState}
use Rattle.af_runs.specs.declared.run_state.RunState.TheVariants as run_state
use Rattle.af_runs.specs.declared.run_type.RunType.{RunType}
use Rattle.af_runs.specs.declared.run_type.RunType.TheVariants as run_type
use Rattle.af_sched.specs.declared.dag_row.DagRow.{DagRow}
use Rattle.af_sched.specs.declared.held.Held.{Held}
use Rattle.af_vars.specs.declared.variable.Variable.{Variable}
use Rattle.af_ops.specs.declared.status.Status.{Status}
use Rattle.af_ops.specs.Fields.{Field, instant_data}
use Rattle.af_ops.specs.Statuses.{code_of, reason_of}

abbrev pub points_data : Points → Data
points_data (points.Preset preset) = string (preset_text preset)
points_data (points.Seconds seconds) = number (unsigned seconds)

-- a preset's text, a number of seconds, or null for none
abbrev pub schedule_data : Option Schedule → Data
schedule_data schedule = option_map_or (λ it. points_data it.points) schedule null

-- a DAG; its next run is that of its cursor
abbrev pub dag_fields : DagRow → List Field
dag_fields row =
    (codes "dag_id", string row.dag.dag_id)
    ∷ (codes "is_paused", boolean row.is_paused)
    ∷ (codes "max_active_runs", number (unsigned row.dag.max_active_runs))
    ∷ (codes "next_dagrun", instant_data row.cursor)
    ∷ (codes "schedule_interval", schedule_data row.dag.schedule)
    ∷ []

abbrev pub run_type_text : RunType → List ℕ
run_type_text run_type.Manual = codes "manual"
run_type_text run_type.Scheduled = codes "scheduled"
run_type_text run_type.Backfill = codes "backfill"

abbrev pub run_state_text : RunState → List ℕ
run_state_text run_state.Queued = codes "queued"
run_state_text run_state.Running = codes "running"
run_state_text run_state.Success = codes "success"
run_state_text run_state.Failed = codes "failed"

-- a run of a DAG; its number is not told
abbrev pub run_fields : Run → List Field
run_fields run =
    (codes "dag_id", string run.dag_id)
    ∷ (codes "dag_run_id", string run.run_id)
    ∷ (codes "data_interval_end", instant_data (Some run.interval.end))
    ∷ (codes "data_interval_start", instant_data (Some run.interval.start))
    ∷ (codes "end_date", instant_data run.end_date)
    ∷ (codes "logical_date", instant_data (Some run.logical_date))
    ∷ (codes "run_type", string (run_type_text run.run_type))
    ∷ (codes "start_date", instant_data run.start_date)
    ∷ (codes "state", string (run_state_text run.state))
    ∷ []

-- a task, with the ids of the tasks that wait for it
pub record TaskTold : Type 0 where
  pub downstream : List (List ℕ)
  pub task : TaskSpec

abbrev pub task_fields : TaskTold → List Field
task_fields told =
    (codes "downstream_task_ids", array (items_of (map (λ id. string id) told.downstream)))
    ∷ (codes "pool", string told.task.pool)
    ∷ (codes "pool_slots", number (unsigned told.task.pool_slots))
    ∷ (codes "priority_weight", number (of_integer told.task.priority_weight))
    ∷ (codes "retries", number (unsigned told.task.retries))
    ∷ (codes "task_id", string told.task.task_id)
    ∷ (codes "trigger_rule", string (rule_text told.task.trigger_rule))
    ∷ []

-- null for none
abbrev pub state_data : TaskState → Data
state_data NoStatus = null
state_data Scheduled = string (codes "scheduled")
state_data Queued = string (codes "queued")
state_data Running = string (codes "running")
state_data Success = string (codes "success")
state_data Failed = string (codes "failed")
state_data Skipped = string (codes "skipped")
state_data UpstreamFailed = string (codes "upstream_failed")
state_data UpForRetry = string (codes "up_for_retry")

-- an instance, with its run and its task
pub record InstanceTold : Type 0 where
  pub run : Run
  pub task : TaskSpec
  pub instance : Instance

abbrev pub instance_first : InstanceTold → List Field
instance_first told =
    (codes "dag_id", string told.run.dag_id)
    ∷ (codes "dag_run_id", string told.run.run_id)
    ∷ (codes "end_date", instant_data told.instance.end_date)
    ∷ (codes "pool", string told.task.pool)
    ∷ (codes "pool_slots", number (unsigned told.task.pool_slots))
    ∷ []

abbrev pub instance_last : InstanceTold → List Field
instance_last told =
    (codes "priority_weight", number (of_integer told.task.priority_weight))
    ∷ (codes "start_date", instant_data told.instance.start_date)
    ∷ (codes "state", state_data told.instance.state)
    ∷ (codes "task_id", string told.task.task_id)
    ∷ (codes "try_number", number (unsigned told.instance.try_number))
    ∷ []

abbrev pub instance_fields : InstanceTold → List Field
instance_fields told = instance_first told ++ instance_last told

-- an instance that is cleared: its run, and its task
pub record ClearedTold : Type 0 where
  pub run : Run
  pub task_id : List ℕ

abbrev pub cleared_fields : ClearedTold → List Field
cleared_fields told =
    (codes "dag_id", string told.run.dag_id)
    ∷ (codes "dag_run_id", string told.run.run_id)
    ∷ (codes "logical_date", instant_data (Some told.run.logical_date))
    ∷ (codes "task_id", string told.task_id)
    ∷ []

-- a pool, and the slots that instances hold of it
pub record PoolTold : Type 0 where
  pub name : List ℕ
  pub slots : ℕ
  pub held : Held

-- what is queued and what is running occupies slots
abbrev pub occupied_by : Held → ℕ
occupied_by held = held.queued + held.running

-- the slots less those occupied, at least 0
abbrev pub open_beside : ℕ → Held → ℕ
open_beside slots held = slots - occupied_by held

abbrev pub pool_fields : PoolTold → List Field
pool_fields told =
    (codes "name", string told.name)
    ∷ (codes "occupied_slots", number (unsigned (occupied_by told.held)))
    ∷ (codes "open_slots", number (unsigned (open_beside told.slots told.held)))
    ∷ (codes "queued_slots", number (unsigned told.held.queued))
    ∷ (codes "running_slots", number (unsigned told.held.running))
    ∷ (codes "slots", number (unsigned told.slots))
    ∷ []

abbrev pub variable_fields : Variable → List Field
variable_fields variable = (codes "key", string variable.key) ∷ (codes "value", string variable.value) ∷ []

-- what the server is
abbrev pub version_fields : List Field
version_fields = (codes "git_version", null) ∷ (codes "version", string (codes "afplane 1")) ∷ []

-- a fault: its status, and what it is about (RFC 9457, section 3)
pub record Problem : Type 0 where
  pub status : Status
  pub detail : List ℕ

abbrev pub problem_fields : Problem → List Field
problem_fields problem =
    (codes "detail", string problem.detail)
    ∷ (codes "status", number (unsigned (code_of problem.status)))
    ∷ (codes "title", string (reason_of problem.status))
    ∷ (codes "type", string (codes "about:blank"))
    ∷ []
