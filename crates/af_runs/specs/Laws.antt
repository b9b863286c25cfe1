-- Laws about runs that are marked, cleared and taken out, in words of their own.
use Rattle.std.specs.Prelude.{ℕ, ◌≡◌, ◌≢◌, ◌<◌, ◌↔◌, List, [], All, true, false, Some, None, length, slice_index_or}
use Rattle.af_graph.specs.declared.task_state.TaskState.TheVariants as task_state
use Rattle.af_runs.specs.Busy.{is_busy}
use Rattle.af_runs.specs.Clears.{admits, are_left_by, chosen_in, cleared_run, is_chosen, is_left_by, run_after, with_cleared}
use Rattle.af_runs.specs.Marks.{is_marked, marked_run, marked_state, with_marked}
use Rattle.af_runs.specs.Runs.{Adds, AreRuns, RunRows, is_finished, is_numbered, run_at, without_run}
use Rattle.af_runs.specs.declared.instance.Instance.{Instance}
use Rattle.af_runs.specs.declared.mark.Mark.{Mark}
use Rattle.af_runs.specs.declared.mark.Mark.TheVariants as mark
use Rattle.af_runs.specs.declared.new_run.NewRun.{NewRun}
use Rattle.af_runs.specs.declared.run.Run.{Run}
use Rattle.af_runs.specs.declared.run_filter.RunFilter.{RunFilter}
use Rattle.af_runs.specs.declared.run_state.RunState.TheVariants as run_state
use Rattle.af_runs.specs.declared.selection.Selection.{Selection}

-- a run that is marked success has ended well, and so has each of its instances
abbrev pub MarkingSuccessLeavesSuccess : Type 0
MarkingSuccessLeavesSuccess =
    (t : ℕ) (run : Run) → ((marked_run mark.Success t run).state ≡ run_state.Success) × All (λ instance. instance.state ≡ task_state.Success) (marked_run mark.Success t run).instances

-- a run of another number than the one that is marked stays as it is
abbrev pub MarksTouchOneRun : Type 0
MarksTouchOneRun =
    (runs : List Run) (number : ℕ) (said : Mark) (t place : ℕ) (d : Run) → place < length runs → is_numbered number (slice_index_or runs place d) ≡ false → slice_index_or (with_marked runs number said t) place d ≡ slice_index_or runs place d

-- a run that is marked so already is the one that a mark leaves as it is
abbrev pub MarkingWhatStandsIsNoChange : Type 0
MarkingWhatStandsIsNoChange = (said : Mark) (t : ℕ) (run : Run) → (is_marked said run ≡ true) ↔ (marked_run said t run ≡ run)

-- a run that a mark has ended is not busy: no instance of it holds slots of a pool
abbrev pub MarkedRunsThatEndAreNotBusy : Type 0
MarkedRunsThatEndAreNotBusy = (said : Mark) (t : ℕ) (run : Run) → is_finished (marked_state said) ≡ true → is_busy (marked_run said t run) ≡ false

-- a clear leaves an instance that is not chosen as it is, and one that is chosen without a state; and it leaves as it is each
-- run that its filter does not admit
pub record TouchesChosenAlone (selection : Selection) (run : Run) : Type 0 where
  pub count : length (cleared_run selection run).instances ≡ length run.instances
  pub others : (place : ℕ) (d : Instance) → place < length run.instances → is_chosen selection (place, slice_index_or run.instances place d) ≡ false → slice_index_or (cleared_run selection run).instances place d ≡ slice_index_or run.instances place d
  pub chosen : (place : ℕ) (d : Instance) → place < length run.instances → is_chosen selection (place, slice_index_or run.instances place d) ≡ true → (slice_index_or (cleared_run selection run).instances place d).state ≡ task_state.NoStatus
  pub runs : (asked : RunFilter) → admits asked run ≡ false → run_after asked selection run ≡ run

abbrev pub ClearsTouchChosenAlone : Type 0
ClearsTouchChosenAlone = (selection : Selection) (run : Run) → TouchesChosenAlone selection run

-- where no instance is chosen a clear leaves all runs as they are
abbrev pub ClearingNothingIsNoChange : Type 0
ClearingNothingIsNoChange = (runs : List Run) (asked : RunFilter) (selection : Selection) → chosen_in runs asked selection ≡ [] → with_cleared runs asked selection ≡ runs

-- a run that is told to be left by a clear is the one that the clear leaves as it is
abbrev pub ClearingWhatStandsIsNoChange : Type 0
ClearingWhatStandsIsNoChange = (selection : Selection) (run : Run) → (is_left_by selection run ≡ true) ↔ (cleared_run selection run ≡ run)

-- and runs that are told to be left by it are those that it leaves as they are
abbrev pub ClearingRunsThatStandIsNoChange : Type 0
ClearingRunsThatStandIsNoChange =
    (runs : List Run) (asked : RunFilter) (selection : Selection) → (are_left_by asked selection runs ≡ true) ↔ (with_cleared runs asked selection ≡ runs)

-- once a run is taken out no run has its number, and a run that is added gets another
abbrev pub RemovedNumbersStayAway : Type 0
RemovedNumbersStayAway =
    (old new : RunRows) (number : ℕ) (run : Run) → AreRuns old.rows old.next → run_at old.rows number ≡ Some run → new ≡ record old { rows = without_run old.rows number } → (run_at new.rows number ≡ None) × ((after : RunRows) (added : NewRun) (other : ℕ) → Adds new after added other → other ≢ number)
