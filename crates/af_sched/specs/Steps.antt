-- What the steps of the calls keep. No public contract cites this file.
use Rattle.std.specs.Prelude.{ℕ, ◌≡◌, ◌≢◌, ◌<◌, ◌++◌, Bool, true, false, fold, length, List, Option, Some, None, slice_index_or, slice_set, if◌then◌else◌}
use Rattle.std.specs.List.{list_any}
use Rattle.af_graph.specs.States.{same_state}
use Rattle.af_graph.specs.declared.task_spec.TaskSpec.{TaskSpec}
use Rattle.af_graph.specs.declared.task_state.TaskState.TheVariants.{Queued}
use Rattle.af_runs.specs.declared.instance.Instance.{Instance}
use Rattle.af_runs.specs.Runs.{RunRows}
use Rattle.af_runs.specs.declared.new_run.NewRun.{NewRun}
use Rattle.af_runs.specs.declared.run.Run.{Run}
use Rattle.af_sched.specs.Create.{with_run, with_runs_of}
use Rattle.af_sched.specs.Settle.{settled_instance, verdict_at}
use Rattle.af_sched.specs.Placed.{Placed, comes_before, IsFirstOf}
use Rattle.af_sched.specs.State.{StateRows, is_of_id}
use Rattle.af_sched.specs.declared.dag_row.DagRow.{DagRow}

-- the row at this place is that of the DAG of this id, and no other row is
pub record StandsAt (dags : List DagRow) (dag_id : List ℕ) (place : ℕ) : Type 0 where
  pub within : place < length dags
  pub here : (d : DagRow) → is_of_id dag_id (slice_index_or dags place d) ≡ true
  pub alone : (other : ℕ) (d : DagRow) → other < length dags → other ≢ place → is_of_id dag_id (slice_index_or dags other d) ≡ false

-- of two instances that come first, the one that does
abbrev pub earlier : Option Placed → Placed → Placed
earlier None next = next
earlier (Some first) next = if comes_before next first then next else first

-- the first instance that passes the test, once one more has been seen
abbrev pub first_with : (Placed → Bool) → Option Placed → Placed → Option Placed
first_with test first next = if test next then Some (earlier first next) else first

-- where one instance is the first of a list, the other is the first of the list with these after it
abbrev pub Continues : (Placed → Bool) → List Placed → Option Placed → Option Placed → Type 0
Continues test more one other = (seen : List Placed) → IsFirstOf test seen one → IsFirstOf test (seen ++ more) other

-- whether an instance of a run is queued
abbrev pub has_queued : Run → Bool
has_queued run = list_any (λ instance. same_state instance.state Queued) run.instances

-- the instance at a place is settled, by what its rule decides on the states that those upstream of it have
abbrev pub SetsSettled : ℕ → List TaskSpec → ℕ → List Instance → List Instance → Type 0
SetsSettled t tasks place old new = (d : Instance) → new ≡ slice_set old place (settled_instance t (verdict_at tasks old place) (slice_index_or old place d))

-- a state with these runs in place of its own
abbrev pub with_rows : StateRows → RunRows → StateRows
with_rows state runs = record state { runs = runs.rows; next_run = runs.next }

-- the runs before and after these are added, of whatever state they are
abbrev pub TakesRuns : List NewRun → RunRows → RunRows → Type 0
TakesRuns added old new = (state : StateRows) → with_rows state new ≡ fold with_run (with_rows state old) added

-- the runs before and after those due at t of these DAGs are added, of whatever state they are
abbrev pub TakesRunsOf : ℕ → List DagRow → RunRows → RunRows → Type 0
TakesRunsOf t dags old new = (state : StateRows) → with_rows state new ≡ fold (with_runs_of t) (with_rows state old) dags
