-- What a permitted clear of instances does (Airflow 2, "DAG Runs": clear). Which instances of which runs it touches stands in `Clears` of the
-- runs' crate.
use Rattle.std.specs.Prelude.{ℕ, [], ◌||◌, List, Bool, false, is_some, not, map, Option, Some, None, unwrap_or, Result, Ok, Err, codes, if◌then◌else◌, ⊤}
use Rattle.serde_json.specs.Data.{Data}
use Rattle.serde_json.specs.Written.{compact_text}
use Rattle.std.specs.List.{position}
use Rattle.af_graph.specs.Graph.{place_of}
use Rattle.af_graph.specs.declared.task_spec.TaskSpec.{TaskSpec}
use Rattle.af_runs.specs.Clears.{ChosenRow, are_left_by, chosen_in, chosen_tasks}
use Rattle.af_runs.specs.declared.run_filter.RunFilter.{RunFilter}
use Rattle.af_runs.specs.declared.selection.Selection.{Selection}
use Rattle.af_sched.specs.State.{StateRows}
use Rattle.af_ops.specs.Edits.{with_clear}
use Rattle.af_ops.specs.Fields.{list_of}
use Rattle.af_base.specs.Readings.{◌>>=◌}
use Rattle.af_ops.specs.Replies.{cleared_data}
use Rattle.af_ops.specs.Rows.{ClearedTold}
use Rattle.af_ops.specs.declared.answer.OpFault.{OpFault}
use Rattle.af_ops.specs.declared.answer.OpFault.TheVariants as fault
use Rattle.af_ops.specs.declared.body_fault.BodyFault.{BodyFault}
use Rattle.af_ops.specs.declared.clear.Clear.{Clear}
use Rattle.af_ops.specs.EffectParts.{Effect, dag_or, id_at, input_or, run_or}

-- the instances that a clear touches, each with its run and its task
abbrev pub cleared_told : List TaskSpec → List ChosenRow → List ClearedTold
cleared_told tasks chosen = map (λ it. record { run = it.run; task_id = id_at tasks it.place }) chosen

-- all of them, for there are no pages of instances that are cleared
abbrev pub cleared_list : List TaskSpec → List ChosenRow → Data
cleared_list tasks chosen = list_of (codes "task_instances") (map cleared_data (cleared_told tasks chosen))

-- the chosen instances of the runs that a filter admits, cleared, and told; a dry run tells them alone, and where they all stand
-- so already, nothing changes
abbrev pub clearing : StateRows → List TaskSpec → RunFilter → Selection → Bool → Effect
clearing state tasks filter selection dry_run = record {
  reply = Some (compact_text (cleared_list tasks (chosen_in state.runs filter selection)));
  next = if dry_run || are_left_by filter selection state.runs then None else Some (with_clear state filter selection);
}

-- one run of a DAG, and all its instances
abbrev pub one_run : List ℕ → List ℕ → RunFilter
one_run dag_id run_id = record { dag_id = dag_id; run_id = Some run_id; start_date = None; end_date = None }

abbrev pub all_tasks : List TaskSpec → Selection
all_tasks tasks = record { tasks = chosen_tasks None tasks; only_failed = false }

-- all instances of a run
abbrev pub run_cleared : StateRows → List ℕ → List ℕ → Result Bool BodyFault → Result Effect OpFault
run_cleared state dag_id run_id input = do
  dry_run ← input_or input
  row ← dag_or state dag_id
  run ← run_or state dag_id run_id
  Ok (clearing state row.dag.tasks (one_run dag_id run_id) (all_tasks row.dag.tasks) dry_run)

-- that there is a run of an id, where one is asked for
abbrev pub known_run : StateRows → List ℕ → Option (List ℕ) → Result ⊤ OpFault
known_run state dag_id None = Ok tt
known_run state dag_id (Some run_id) = run_or state dag_id run_id >>= (λ run. Ok tt)

-- that each of these ids is a task's; the first that is none is told
abbrev pub known_or : Option ℕ → Result ⊤ OpFault
known_or None = Ok tt
known_or (Some place) = Err (fault.NoSuchTaskAt place)

abbrev pub is_unknown : List TaskSpec → List ℕ → Bool
is_unknown tasks task_id = not (is_some (place_of tasks task_id))

abbrev pub known_tasks : List TaskSpec → Option (List (List ℕ)) → Result ⊤ OpFault
known_tasks tasks ids = known_or (position (is_unknown tasks) (unwrap_or ids []))

-- the runs and the instances that a body asks for
abbrev pub filter_of : List ℕ → Clear → RunFilter
filter_of dag_id asked = record {
  dag_id = dag_id;
  run_id = asked.dag_run_id;
  start_date = asked.start_date;
  end_date = asked.end_date;
}

abbrev pub selection_of : List TaskSpec → Clear → Selection
selection_of tasks asked = record { tasks = chosen_tasks asked.task_ids tasks; only_failed = asked.only_failed }

-- instances of the runs of a DAG
abbrev pub instances_cleared : StateRows → List ℕ → Result Clear BodyFault → Result Effect OpFault
instances_cleared state dag_id input = do
  asked ← input_or input
  row ← dag_or state dag_id
  run ← known_run state dag_id asked.dag_run_id
  tasks ← known_tasks row.dag.tasks asked.task_ids
  Ok (clearing state row.dag.tasks (filter_of dag_id asked) (selection_of row.dag.tasks asked) asked.dry_run)
