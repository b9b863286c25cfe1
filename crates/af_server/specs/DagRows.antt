-- A DAG of a configuration: its members in their order, then whether its tasks make a graph, then its id (this product's own
-- rule; the members are those of Airflow 2, "DAGs" and "DAG Runs").
use Rattle.std.specs.Prelude.{ℕ, List, ◌++◌, codes, Bool, true, false, Option, Some, None, option_and_then, option_map, ok_or, Result, Ok, Err}
use Rattle.std.specs.Option.{option_map_or}
use Rattle.std.specs.Result.{result_ok}
use Rattle.serde_json.specs.Data.{Data}
use Rattle.serde_json.specs.Find.{as_number, as_str}
use Rattle.af_names.specs.Names.{id_grammar}
use Rattle.af_names.specs.Instants.{instant_of}
use Rattle.af_names.specs.Presets.{preset_of}
use Rattle.af_graph.specs.Definition.{checked}
use Rattle.af_graph.specs.declared.dag_fault.DagFault.{DagFault}
use Rattle.af_graph.specs.declared.dag_spec.DagSpec.{DagSpec}
use Rattle.af_graph.specs.declared.schedule.Points.{Points}
use Rattle.af_graph.specs.declared.schedule.Points.TheVariants.{Preset, Seconds}
use Rattle.af_graph.specs.declared.schedule.Schedule.{Schedule}
use Rattle.af_pool.specs.declared.pool.Pool.{Pool}
use Rattle.af_sched.specs.Due.{first_cursor}
use Rattle.af_sched.specs.Scripts.{ScriptRow}
use Rattle.af_sched.specs.State.{dag_fault, with_dag}
use Rattle.af_sched.specs.declared.dag_row.DagRow.{DagRow}
use Rattle.af_base.specs.Readings.{◌>>=◌, member_of, required, seen}
use Rattle.af_server.specs.declared.config.dags.Settings.{Settings}
use Rattle.af_server.specs.declared.reason.Reason.{Reason}
use Rattle.af_server.specs.declared.reason.Reason.TheVariants as reason
use Rattle.af_server.specs.Drafts.{Draft, unless_fault}
use Rattle.af_server.specs.Members.{name_in, number_in, optional_list_in, truth_in, within}
use Rattle.af_server.specs.Reasons.{dag_reason, graph_reason}
use Rattle.af_server.specs.Tasks.{TasksRead, tasks_in}

-- a text is that of a preset, a number is one of seconds, at most a year of 365 days
abbrev pub points_or : Data → Option (List ℕ) → Result Points Reason
points_or value (Some text) = ok_or (option_map Preset (preset_of text)) reason.Schedule
points_or value None = seen Seconds (within 1 31_536_000 (as_number value))

abbrev pub points_of : Data → Result Points Reason
points_of value = points_or value (as_str value)

-- the moment that a text states
abbrev pub instant_text : Data → Option ℕ
instant_text value = option_and_then (λ text. result_ok (instant_of text)) (as_str value)

-- the start date, which a schedule wants
abbrev pub start_in : Data → Result ℕ Reason
start_in row = required instant_text reason.Schedule (member_of (codes "start_date") row)

-- without a schedule the start date is not looked at
abbrev pub schedule_or : Data → Option Data → Result (Option Schedule) Reason
schedule_or row None = Ok None
schedule_or row (Some value) = do
  points ← points_of value
  start ← start_in row
  Ok (Some (record { points = points; start_date = start }))

abbrev pub schedule_in : Data → Result (Option Schedule) Reason
schedule_in row = schedule_or row (member_of (codes "schedule") row)

-- how a DAG is run
abbrev pub settings_in : Data → Result Settings Reason
settings_in row = do
  schedule ← schedule_in row
  catchup ← truth_in (codes "catchup") true row
  runs ← number_in (codes "max_active_runs") 1 1_000 16 row
  paused ← truth_in (codes "is_paused") false row
  Ok (record { schedule = schedule; catchup = catchup; max_active_runs = runs; is_paused = paused })

abbrev pub spec_of : List ℕ → Settings → TasksRead → DagSpec
spec_of dag_id settings read = record {
  dag_id = dag_id;
  tasks = read.tasks;
  schedule = settings.schedule;
  catchup = settings.catchup;
  max_active_runs = settings.max_active_runs;
}

abbrev pub graph_or : Result DagSpec (DagFault (List ℕ)) → Result DagSpec Reason
graph_or (Ok dag) = Ok dag
graph_or (Err fault) = Err (graph_reason fault)

-- a DAG of which no run was created: its cursor is the first point of its schedule
abbrev pub opened : DagSpec → Bool → DagRow
opened dag paused = record { dag = dag; is_paused = paused; cursor = option_map_or first_cursor dag.schedule None }

-- a DAG, and the scripts of its tasks
pub record DagRead : Type 0 where
  pub row : DagRow
  pub scripts : List ScriptRow

abbrev pub dag_in : List Pool → Data → Result DagRead Reason
dag_in pools row = do
  dag_id ← name_in id_grammar (codes "dag_id") row
  settings ← settings_in row
  rows ← optional_list_in (codes "tasks") row
  read ← tasks_in pools dag_id rows
  dag ← graph_or (checked (spec_of dag_id settings read))
  Ok (record { row = opened dag settings.is_paused; scripts = read.scripts })

abbrev pub placed_dag : Draft → DagRead → Result Draft Reason
placed_dag draft read =
    unless_fault dag_reason (dag_fault draft.state read.row) (record draft {
      state = record draft.state { dags = with_dag draft.state.dags read.row };
      scripts = draft.scripts ++ read.scripts;
    })

abbrev pub dag_taken : Draft → Data → Result Draft Reason
dag_taken draft row = dag_in draft.state.pools row >>= placed_dag draft
