-- What a permitted operation does: its reply and the state after it, or the first fault in the order of `OpFault`. Each next
-- state is a map or a filter over the lists of the state, or one row more at their end.
use Rattle.std.specs.Prelude.{ℕ, ◌++◌, List, Bool, false, not, filter, map, length, zip, Option, Some, None, option_map, option_and_then, ok_or, unwrap_or, Result, Ok, Err, codes, if◌then◌else◌}
use Rattle.serde_json.specs.Data.{Data}
use Rattle.serde_json.specs.Written.{compact_text}
use Rattle.af_names.specs.Isoformat.{isoformat}
use Rattle.std.specs.List.{enumerate_from, slice_get}
use Rattle.af_policy.specs.Grants.{Readable, shows_runs}
use Rattle.af_policy.specs.declared.bad_input.Parameter.{Parameter}
use Rattle.af_listing.specs.Pages.{cut}
use Rattle.af_listing.specs.Windows.{Cut}
use Rattle.af_graph.specs.Graph.{downstream_of, place_of}
use Rattle.af_graph.specs.declared.task_spec.TaskSpec.{TaskSpec}
use Rattle.af_runs.specs.Instances.{new_instances}
use Rattle.af_runs.specs.Marks.{is_marked, marked_run}
use Rattle.af_runs.specs.Runs.{add_fault, is_run, queued_run, runs_of}
use Rattle.af_runs.specs.declared.instance.Instance.{Instance}
use Rattle.af_runs.specs.declared.mark.Mark.{Mark}
use Rattle.af_runs.specs.declared.new_run.NewRun.{NewRun}
use Rattle.af_runs.specs.declared.run.Run.{Run}
use Rattle.af_runs.specs.declared.run_fault.RunFault.{RunFault}
use Rattle.af_runs.specs.declared.run_fault.RunFault.TheVariants as run_fault
use Rattle.af_runs.specs.declared.run_type.RunType.TheVariants.{Manual}
use Rattle.af_sched.specs.State.{StateRows, with_paused}
use Rattle.af_sched.specs.declared.dag_row.DagRow.{DagRow}
use Rattle.af_ops.specs.Edits.{with_run}
use Rattle.af_ops.specs.Endpoints.{both}
use Rattle.af_ops.specs.Fields.{listing_of}
use Rattle.af_ops.specs.Listings.{read_rows}
use Rattle.af_ops.specs.PoolEffects.{pool_effect}
use Rattle.af_base.specs.Readings.{◌>>=◌}
use Rattle.af_ops.specs.Replies.{dag_data, instance_data, run_data, task_data, version_data}
use Rattle.af_ops.specs.Rows.{InstanceTold, TaskTold}
use Rattle.af_ops.specs.VariableEffects.{variable_effect}
use Rattle.af_ops.specs.declared.answer.OpFault.{OpFault}
use Rattle.af_ops.specs.declared.answer.OpFault.TheVariants as fault
use Rattle.af_ops.specs.declared.body_fault.BodyFault.{BodyFault}
use Rattle.af_ops.specs.declared.op.Op.{Op}
use Rattle.af_ops.specs.declared.op.Op.TheVariants as op
use Rattle.af_ops.specs.declared.trigger.Trigger.{Trigger}
pub use Rattle.af_ops.specs.BackfillEffects.{backfilled_dag, backfilling, count_of, may_make, most_points, new_runs_data, range_or, runs_since, unless_too_many}
pub use Rattle.af_ops.specs.ClearEffects.{all_tasks, cleared_list, cleared_told, clearing, filter_of, instances_cleared, is_unknown, known_or, known_run, known_tasks, one_run, run_cleared, selection_of}
pub use Rattle.af_ops.specs.EffectParts.{Effect, dag_or, id_at, input_fault, input_or, kept, run_or, window_or}

-- ---- the operations

-- of the DAGs that are read, those of a page, and how many there are
abbrev pub dags_data : (List ℕ → Bool) → Cut → List DagRow → Data
dags_data reads window dags =
    listing_of (codes "dags") (map dag_data (cut window (read_rows reads (λ row. row.dag.dag_id) dags)))
    (length (read_rows reads (λ row. row.dag.dag_id) dags))

abbrev pub listed_dags : (List ℕ → Bool) → StateRows → Result Cut Parameter → Result Effect OpFault
listed_dags reads state asked = do
  window ← window_or asked
  Ok (kept (dags_data reads window state.dags))

-- one DAG
abbrev pub got_dag : StateRows → List ℕ → Result Effect OpFault
got_dag state dag_id = do
  row ← dag_or state dag_id
  Ok (kept (dag_data row))

-- whether a DAG is not paused and is to be, or the other way round
abbrev pub differs : DagRow → Bool → Bool
differs row is_paused = if is_paused then not row.is_paused else row.is_paused

-- a DAG paused, or not; where it stands so already, nothing changes
abbrev pub pausing : StateRows → List ℕ → DagRow → Bool → Effect
pausing state dag_id row is_paused = record {
  reply = Some (compact_text (dag_data (record row { is_paused = is_paused })));
  next = if differs row is_paused then Some (record state { dags = with_paused state.dags dag_id is_paused }) else None;
}

abbrev pub paused_dag : StateRows → List ℕ → Result Bool BodyFault → Result Effect OpFault
paused_dag state dag_id input = do
  is_paused ← input_or input
  row ← dag_or state dag_id
  Ok (pausing state dag_id row is_paused)

-- the ids of the tasks directly downstream of the task at a place, in the order of the definition, each once
abbrev pub downstream_ids : List TaskSpec → ℕ → List (List ℕ)
downstream_ids tasks place = map (id_at tasks) (downstream_of tasks place)

-- these tasks, which stand at the first places among all of a DAG
abbrev pub first_told : List TaskSpec → List TaskSpec → List TaskTold
first_told all tasks = map (λ at. record { downstream = downstream_ids all at.0; task = at.1 }) (enumerate_from 0 tasks)

-- the tasks of a DAG, in the order of the definition
abbrev pub tasks_told : List TaskSpec → List TaskTold
tasks_told tasks = first_told tasks tasks

-- all of them, for there are no pages of tasks
abbrev pub tasks_data : List TaskSpec → Data
tasks_data tasks = listing_of (codes "tasks") (map task_data (tasks_told tasks)) (length tasks)

abbrev pub listed_tasks : StateRows → List ℕ → Result Effect OpFault
listed_tasks state dag_id = do
  row ← dag_or state dag_id
  Ok (kept (tasks_data row.dag.tasks))

-- of these runs, those of a page, and how many there are
abbrev pub runs_data : Cut → List Run → Data
runs_data window runs = listing_of (codes "dag_runs") (map run_data (cut window runs)) (length runs)

-- the runs of all DAGs whose runs are shown, in order of their numbers
abbrev pub all_runs : (List ℕ → Bool) → StateRows → Result Cut Parameter → Result Effect OpFault
all_runs shows state asked = do
  window ← window_or asked
  Ok (kept (runs_data window (read_rows shows (λ run. run.dag_id) state.runs)))

-- the runs of one DAG, in that order
abbrev pub runs_of_dag : StateRows → List ℕ → Result Cut Parameter → Result Effect OpFault
runs_of_dag state dag_id asked = do
  window ← window_or asked
  row ← dag_or state dag_id
  Ok (kept (runs_data window (runs_of state.runs dag_id)))

abbrev pub listed_runs : (List ℕ → Bool) → StateRows → Option (List ℕ) → Result Cut Parameter → Result Effect OpFault
listed_runs shows state None asked = all_runs shows state asked
listed_runs shows state (Some dag_id) asked = runs_of_dag state dag_id asked

-- one run
abbrev pub got_run : StateRows → List ℕ → List ℕ → Result Effect OpFault
got_run state dag_id run_id = do
  row ← dag_or state dag_id
  run ← run_or state dag_id run_id
  Ok (kept (run_data run))

-- instances of a run, each with its task
abbrev pub each_told : Run → List TaskSpec → List Instance → List InstanceTold
each_told run tasks instances = map (λ at. record { run = run; task = at.0; instance = at.1 }) (zip tasks instances)

-- the instances of a run, in the order of the definition
abbrev pub instances_told : List TaskSpec → Run → List InstanceTold
instances_told tasks run = each_told run tasks run.instances

-- those of a page, and how many there are
abbrev pub instances_data : Cut → List TaskSpec → Run → Data
instances_data window tasks run =
    listing_of (codes "task_instances") (map instance_data (cut window (instances_told tasks run)))
    (length (instances_told tasks run))

abbrev pub listed_instances : StateRows → List ℕ → List ℕ → Result Cut Parameter → Result Effect OpFault
listed_instances state dag_id run_id asked = do
  window ← window_or asked
  row ← dag_or state dag_id
  run ← run_or state dag_id run_id
  Ok (kept (instances_data window row.dag.tasks run))

-- the instance at a place, and that of a task's id
abbrev pub instance_at : List TaskSpec → Run → ℕ → Option InstanceTold
instance_at tasks run place =
    option_map (λ at. record { run = run; task = at.0; instance = at.1 }) (both (slice_get tasks place) (slice_get run.instances place))

abbrev pub instance_of : List TaskSpec → Run → List ℕ → Option InstanceTold
instance_of tasks run task_id = option_and_then (instance_at tasks run) (place_of tasks task_id)

abbrev pub got_instance : StateRows → List ℕ → List ℕ → List ℕ → Result Effect OpFault
got_instance state dag_id run_id task_id = do
  row ← dag_or state dag_id
  run ← run_or state dag_id run_id
  told ← ok_or (instance_of row.dag.tasks run task_id) fault.NoSuchTask
  Ok (kept (instance_data told))

-- the id that is made of a date: `manual__` and the date
unfoldable pub made_id : ℕ → List ℕ
made_id date = codes "manual__" ++ isoformat date

-- the id that is given, else the one that is made of the date
abbrev pub id_or : Option (List ℕ) → ℕ → List ℕ
id_or given date = unwrap_or given (made_id date)

-- a run that is triggered begins and ends, as its data goes, at its date; each task of its DAG has a new instance
abbrev pub new_run : DagRow → List ℕ → List ℕ → ℕ → NewRun
new_run row dag_id run_id date = record {
  dag_id = dag_id;
  run_id = run_id;
  logical_date = date;
  interval = record { start = date; end = date };
  run_type = Manual;
  instances = new_instances row.dag.tasks;
}

-- the id of a run that may be added, or why it may not
abbrev pub free_by : List ℕ → ℕ → Option RunFault → Result (List ℕ) OpFault
free_by run_id date None = Ok run_id
free_by run_id date (Some run_fault.RunExists) = Err (fault.RunExists date)
free_by run_id date (Some run_fault.DateTaken) = Err (fault.DateTaken date)
free_by run_id date (Some run_fault.Full) = Err fault.TooMany
free_by run_id date (Some run_fault.OutOfMemory) = Err fault.OutOfMemory

abbrev pub free_id : StateRows → List ℕ → List ℕ → ℕ → Result (List ℕ) OpFault
free_id state dag_id run_id date = free_by run_id date (add_fault state.runs state.next_run dag_id run_id date)

-- the state with the run, which is told as it then stands
abbrev pub added_run : StateRows → NewRun → Effect
added_run state new = record {
  reply = Some (compact_text (run_data (queued_run state.next_run new)));
  next = Some (with_run state new);
}

-- a run of a DAG, at the date that is given, else at the moment
abbrev pub triggered_run : StateRows → List ℕ → Result Trigger BodyFault → ℕ → Result Effect OpFault
triggered_run state dag_id input now = do
  asked ← input_or input
  row ← dag_or state dag_id
  run_id ← free_id state dag_id (id_or asked.dag_run_id (unwrap_or asked.logical_date now)) (unwrap_or asked.logical_date now)
  Ok (added_run state (new_run row dag_id run_id (unwrap_or asked.logical_date now)))

-- the state, the run of these ids marked so at a moment
abbrev pub with_marked_run : StateRows → List ℕ → List ℕ → Mark → ℕ → StateRows
with_marked_run state dag_id run_id mark now =
    record state { runs = map (λ run. if is_run dag_id run_id run then marked_run mark now run else run) state.runs }

-- a run marked so, and told as it then stands; where it and all its instances stand so already, nothing changes
abbrev pub marking : StateRows → List ℕ → List ℕ → Run → Mark → ℕ → Effect
marking state dag_id run_id run mark now = record {
  reply = Some (compact_text (run_data (marked_run mark now run)));
  next = if is_marked mark run then None else Some (with_marked_run state dag_id run_id mark now);
}

-- a run marked success, failed or queued
abbrev pub run_marked : StateRows → List ℕ → List ℕ → Result Mark BodyFault → ℕ → Result Effect OpFault
run_marked state dag_id run_id input now = do
  mark ← input_or input
  row ← dag_or state dag_id
  run ← run_or state dag_id run_id
  Ok (marking state dag_id run_id run mark now)

-- the state without the run of these ids
abbrev pub without_run_of : StateRows → List ℕ → List ℕ → StateRows
without_run_of state dag_id run_id = record state { runs = filter (λ run. not (is_run dag_id run_id run)) state.runs }

-- a run deleted, with its instances
abbrev pub deleting : StateRows → List ℕ → List ℕ → Effect
deleting state dag_id run_id = record { reply = None; next = Some (without_run_of state dag_id run_id) }

abbrev pub run_deleted : StateRows → List ℕ → List ℕ → Result Effect OpFault
run_deleted state dag_id run_id = do
  row ← dag_or state dag_id
  run ← run_or state dag_id run_id
  Ok (deleting state dag_id run_id)

-- nothing may be read
abbrev pub nothing_readable : Readable
nothing_readable = record { dags = λ dag. false; runs = λ dag. false }

-- what a permitted operation does for who may read this, at a moment; an operation on one DAG, or on its runs, is permitted only to who may
-- read them, so it does not ask again
abbrev pub effect_of : Readable → StateRows → Op → ℕ → Result Effect OpFault
effect_of readable state op.Version now = Ok (kept version_data)
effect_of readable state (op.ListDags asked) now = listed_dags readable.dags state asked
effect_of readable state (op.GetDag dag_id) now = got_dag state dag_id
effect_of readable state (op.PauseDag dag_id input) now = paused_dag state dag_id input
effect_of readable state (op.ListTasks dag_id) now = listed_tasks state dag_id
effect_of readable state (op.ListRuns dag asked) now = listed_runs (shows_runs readable) state dag asked
effect_of readable state (op.TriggerRun dag_id input) now = triggered_run state dag_id input now
effect_of readable state (op.GetRun dag_id run_id) now = got_run state dag_id run_id
effect_of readable state (op.MarkRun dag_id run_id input) now = run_marked state dag_id run_id input now
effect_of readable state (op.DeleteRun dag_id run_id) now = run_deleted state dag_id run_id
effect_of readable state (op.ClearRun dag_id run_id input) now = run_cleared state dag_id run_id input
effect_of readable state (op.ListInstances dag_id run_id asked) now = listed_instances state dag_id run_id asked
effect_of readable state (op.GetInstance dag_id run_id task_id) now = got_instance state dag_id run_id task_id
effect_of readable state (op.ClearInstances dag_id input) now = instances_cleared state dag_id input
effect_of readable state (op.BackfillDag dag_id input) now = backfilled_dag state dag_id input
effect_of readable state (op.Pool it) now = pool_effect state it
effect_of readable state (op.Variable it) now = variable_effect state it
