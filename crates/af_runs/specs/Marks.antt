-- Marking a run success, failed or queued (Airflow 2's REST API, "Modify a DAG run"). What becomes of its instances and of its
-- dates is this product's own rule: what is in the state already stays whole.
use Rattle.std.specs.Prelude.{ℕ, ◌==◌, ◌&&◌, Bool, true, List, map, Option, Some, None, if◌then◌else◌}
use Rattle.std.specs.List.{list_all}
use Rattle.af_graph.specs.States as states
use Rattle.af_graph.specs.declared.task_state.TaskState.{TaskState}
use Rattle.af_graph.specs.declared.task_state.TaskState.TheVariants as task_state
use Rattle.af_runs.specs.Runs.{is_numbered}
use Rattle.af_runs.specs.declared.instance.Instance.{Instance}
use Rattle.af_runs.specs.declared.mark.Mark.{Mark}
use Rattle.af_runs.specs.declared.mark.Mark.TheVariants as mark
use Rattle.af_runs.specs.declared.run.Run.{Run}
use Rattle.af_runs.specs.declared.run_state.RunState.{RunState}
use Rattle.af_runs.specs.declared.run_state.RunState.TheVariants as run_state

-- the state of a run that is marked so
abbrev pub marked_state : Mark → RunState
marked_state mark.Success = run_state.Success
marked_state mark.Failed = run_state.Failed
marked_state mark.Queued = run_state.Queued

-- the mark that puts a run into this state; a run is not marked running
abbrev pub mark_of : RunState → Option Mark
mark_of run_state.Success = Some mark.Success
mark_of run_state.Failed = Some mark.Failed
mark_of run_state.Queued = Some mark.Queued
mark_of run_state.Running = None

-- the number by which two states of runs are compared
abbrev pub run_state_rank : RunState → ℕ
run_state_rank run_state.Queued = 0
run_state_rank run_state.Running = 1
run_state_rank run_state.Success = 2
run_state_rank run_state.Failed = 3

abbrev pub same_run_state : RunState → RunState → Bool
same_run_state one other = run_state_rank one == run_state_rank other

-- an instance of a run that is marked success at t ends well then, unless it has ended well already
abbrev pub succeeded_instance : ℕ → Instance → Instance
succeeded_instance t instance =
    if states.same_state instance.state task_state.Success then instance
    else record instance { state = task_state.Success; end_date = Some t }

-- how an instance that has not ended does end where its run is marked failed: one that is running fails, any other is skipped
abbrev pub stopped_state : TaskState → TaskState
stopped_state task_state.Running = task_state.Failed
stopped_state _ = task_state.Skipped

-- an instance of a run that is marked failed at t ends then, unless it has ended already
abbrev pub stopped_instance : ℕ → Instance → Instance
stopped_instance t instance =
    if states.is_finished instance.state then instance
    else record instance { state = stopped_state instance.state; end_date = Some t }

-- an instance of a run that is marked so at t
abbrev pub marked_instance : Mark → ℕ → Instance → Instance
marked_instance mark.Success t instance = succeeded_instance t instance
marked_instance mark.Failed t instance = stopped_instance t instance
marked_instance mark.Queued t instance = instance

-- the start of a run that is put into the state: one that is queued has none
abbrev pub marked_start : Mark → Option ℕ → Option ℕ
marked_start mark.Success start = start
marked_start mark.Failed start = start
marked_start mark.Queued start = None

-- the end of a run that is put into the state at t: one that is queued has none
abbrev pub marked_end : Mark → ℕ → Option ℕ
marked_end mark.Success t = Some t
marked_end mark.Failed t = Some t
marked_end mark.Queued t = None

-- whether a run is in the state that it is marked
abbrev pub is_in_state : Mark → Run → Bool
is_in_state mark run = same_run_state run.state (marked_state mark)

-- a run that is marked so at t
abbrev pub marked_run : Mark → ℕ → Run → Run
marked_run mark t run = record run {
  state = marked_state mark;
  start_date = if is_in_state mark run then run.start_date else marked_start mark run.start_date;
  end_date = if is_in_state mark run then run.end_date else marked_end mark t;
  instances = map (marked_instance mark t) run.instances;
}

-- the runs, that of this number marked so at t; without such a run they are the same
abbrev pub with_marked : List Run → ℕ → Mark → ℕ → List Run
with_marked runs number mark t = map (λ run. if is_numbered number run then marked_run mark t run else run) runs

-- whether an instance in this state stays whole where its run is marked so
abbrev pub stays_in : Mark → TaskState → Bool
stays_in mark.Success state = states.same_state state task_state.Success
stays_in mark.Failed state = states.is_finished state
stays_in mark.Queued state = true

-- whether a run is marked so already: it is in the state, and each of its instances stays whole
abbrev pub is_marked : Mark → Run → Bool
is_marked mark run = is_in_state mark run && list_all (λ instance. stays_in mark instance.state) run.instances
