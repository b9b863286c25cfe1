-- Clearing task instances, so that they are run again (Airflow 2's REST API, "Clear a set of task instances"). That one which is
-- running is cleared too, and that a run which has ended is queued again, is this product's own rule.
use Rattle.std.specs.Prelude.{ℕ, ◌+◌, ◌==◌, ◌&&◌, not, Bool, true, false, List, map, filter, flat_map, nat_le, Option, Some, None, is_none, is_some, slice_index_or, if◌then◌else◌}
use Rattle.std.specs.List.{enumerate_from, list_all, list_any}
use Rattle.std.specs.Option.{option_map_or}
use Rattle.af_graph.specs.Graph.{same_name}
use Rattle.af_graph.specs.States.{same_state}
use Rattle.af_graph.specs.declared.task_spec.TaskSpec.{TaskSpec}
use Rattle.af_graph.specs.declared.task_state.TaskState.{TaskState}
use Rattle.af_graph.specs.declared.task_state.TaskState.TheVariants as task_state
use Rattle.af_runs.specs.Runs.{is_finished, is_numbered, is_of}
use Rattle.af_runs.specs.declared.instance.Instance.{Instance}
use Rattle.af_runs.specs.declared.run.Run.{Run}
use Rattle.af_runs.specs.declared.run_filter.RunFilter.{RunFilter}
use Rattle.af_runs.specs.declared.run_state.RunState.TheVariants.{Queued}
use Rattle.af_runs.specs.declared.selection.Selection.{Selection}

-- whether a task is one of those of these ids; without ids each task is
abbrev pub is_named : Option (List (List ℕ)) → TaskSpec → Bool
is_named ids task = option_map_or (λ named. list_any (λ id. same_name task.task_id id) named) ids true

-- for each task, in the order of the definition, its retries where it is one of those of these ids
abbrev pub chosen_tasks : Option (List (List ℕ)) → List TaskSpec → List (Option ℕ)
chosen_tasks ids tasks = map (λ task. if is_named ids task then Some task.retries else None) tasks

-- whether an instance in this state has failed, or never ran since something above it failed
abbrev pub has_failed : TaskState → Bool
has_failed task_state.Failed = true
has_failed task_state.UpstreamFailed = true
has_failed _ = false

-- whether a run is one whose instances may be chosen: it is the DAG's, it has the id that is asked for, and its logical date is
-- within the bounds, each of which is within them; what is not asked for excludes no run
abbrev pub admits : RunFilter → Run → Bool
admits asked run =
    is_of asked.dag_id run
    && option_map_or (λ run_id. same_name run.run_id run_id) asked.run_id true
    && option_map_or (λ first. nat_le first run.logical_date) asked.start_date true
    && option_map_or (λ last. nat_le run.logical_date last) asked.end_date true

-- the retries with which an instance, told with its place, is cleared, where it is chosen
abbrev pub chosen_with : Selection → ℕ × Instance → Option ℕ
chosen_with selection row =
    if selection.only_failed && not (has_failed row.1.state) then None else slice_index_or selection.tasks row.0 None

-- whether an instance, told with its place, is chosen
abbrev pub is_chosen : Selection → ℕ × Instance → Bool
is_chosen selection row = is_some (chosen_with selection row)

-- an instance that is cleared: its task's retries are its tries after the next
abbrev pub cleared_instance : ℕ → Instance → Instance
cleared_instance retries instance = record {
  state = task_state.NoStatus;
  try_number = instance.try_number;
  max_tries = instance.try_number + retries;
  start_date = None;
  end_date = None;
  retry_at = None;
}

-- an instance, told with its place, after a clear
abbrev pub after_clear : Selection → ℕ × Instance → Instance
after_clear selection row = option_map_or (λ retries. cleared_instance retries row.1) (chosen_with selection row) row.1

-- the instances of a run after a clear
abbrev pub cleared_instances : Selection → List Instance → List Instance
cleared_instances selection instances = map (after_clear selection) (enumerate_from 0 instances)

-- whether a run is queued again: it has ended, and an instance of it is chosen
abbrev pub is_requeued : Selection → Run → Bool
is_requeued selection run = is_finished run.state && list_any (is_chosen selection) (enumerate_from 0 run.instances)

-- a run after its chosen instances are cleared
abbrev pub cleared_run : Selection → Run → Run
cleared_run selection run = record run {
  state = if is_requeued selection run then Queued else run.state;
  start_date = if is_requeued selection run then None else run.start_date;
  end_date = if is_requeued selection run then None else run.end_date;
  instances = cleared_instances selection run.instances;
}

-- the runs, the chosen instances of that of this number cleared; without such a run they are the same
abbrev pub with_cleared_run : List Run → ℕ → Selection → List Run
with_cleared_run runs number selection = map (λ run. if is_numbered number run then cleared_run selection run else run) runs

-- a run after the chosen instances of those that a filter admits are cleared
abbrev pub run_after : RunFilter → Selection → Run → Run
run_after asked selection run = if admits asked run then cleared_run selection run else run

-- the runs after the chosen instances of those that a filter admits are cleared
abbrev pub with_cleared : List Run → RunFilter → Selection → List Run
with_cleared runs asked selection = map (run_after asked selection) runs

-- whether an instance is as one that is cleared with these retries
abbrev pub is_cleared : ℕ → Instance → Bool
is_cleared retries instance =
    same_state instance.state task_state.NoStatus
    && (instance.max_tries == instance.try_number + retries)
    && is_none instance.start_date
    && is_none instance.end_date
    && is_none instance.retry_at

-- whether an instance, told with its place, stays whole in a clear: it is not chosen, or is as one that is cleared
abbrev pub stays_in_clear : Selection → ℕ × Instance → Bool
stays_in_clear selection row = option_map_or (λ retries. is_cleared retries row.1) (chosen_with selection row) true

-- whether a clear leaves a run as it is: it is not queued again, and each of its instances stays whole
abbrev pub is_left_by : Selection → Run → Bool
is_left_by selection run =
    not (is_requeued selection run) && list_all (stays_in_clear selection) (enumerate_from 0 run.instances)

-- whether a clear leaves all runs as they are: each of those that its filter admits
abbrev pub are_left_by : RunFilter → Selection → List Run → Bool
are_left_by asked selection runs = list_all (is_left_by selection) (filter (admits asked) runs)

-- an instance that a clear touches: its run, and its place there
pub record ChosenRow : Type 0 where
  pub run : Run
  pub place : ℕ

-- the chosen instances of a run, in the order of the definition
abbrev pub chosen_of : Selection → Run → List ChosenRow
chosen_of selection run =
    map (λ row. record { run = run; place = row.0 }) (filter (is_chosen selection) (enumerate_from 0 run.instances))

-- the chosen instances of the runs that a filter admits, in the order of run numbers, then of the definition
abbrev pub chosen_in : List Run → RunFilter → Selection → List ChosenRow
chosen_in runs asked selection = flat_map (chosen_of selection) (filter (admits asked) runs)
