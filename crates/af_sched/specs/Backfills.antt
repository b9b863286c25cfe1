-- The runs of a range of dates of a DAG, made in one step (Airflow 2: backfill). That a point whose date or whose id is taken is passed
-- over, that the cursor stays, and that a paused DAG stays paused and is backfilled too, is this product's own rule.
use Rattle.std.specs.Prelude.{ℕ, ◌≡◌, ◌+◌, ◌⊎◌, List, [], ◌∷◌, ◌++◌, Bool, true, false, All, not, filter, fold, length, map, nat_le, Some, None}
use Rattle.std.specs.List.{range_with_len}
use Rattle.std.specs.Option.{option_map_or}
use Rattle.af_names.specs.Instants.{last_micros}
use Rattle.af_graph.specs.declared.dag_spec.DagSpec.{DagSpec}
use Rattle.af_graph.specs.Schedules.{is_scheduled}
use Rattle.af_runs.specs.Instances.{new_instances}
use Rattle.af_runs.specs.Runs.{is_taken}
use Rattle.af_runs.specs.declared.new_run.NewRun.{NewRun}
use Rattle.af_runs.specs.declared.run.Run.{Run}
use Rattle.af_runs.specs.declared.run_state.RunState.TheVariants.{Queued}
use Rattle.af_runs.specs.declared.run_type.RunType.TheVariants.{Backfill}
use Rattle.af_sched.specs.Create.{id_of, point_run, with_run}
use Rattle.af_sched.specs.Due.{due_from, next_after}
use Rattle.af_sched.specs.State.{StateRows, dag_of}
use Rattle.af_sched.specs.declared.dag_row.DagRow.{DagRow}

-- the points of a range that have a next one, in order: those from its first date to its last one, both included. The next one may
-- lie past the range
unfoldable pub points_within : (ℕ → Bool) → ℕ → ℕ → List ℕ
points_within is_point first last = filter (λ at. nat_le at last) (due_from is_point first last_micros)

-- the id of the run that a backfill makes for a date
abbrev pub backfill_id : ℕ → List ℕ
backfill_id date = id_of Backfill date

-- the run that a backfill makes for a DAG, of the interval that begins at a point
abbrev pub backfill_run : DagSpec → (ℕ → Bool) → ℕ → NewRun
backfill_run = point_run Backfill

-- the runs that a backfill makes for a DAG, of the intervals that begin at the points of a range
abbrev pub backfill_runs : DagSpec → (ℕ → Bool) → ℕ → ℕ → List NewRun
backfill_runs dag is_point first last = map (backfill_run dag is_point) (points_within is_point first last)

-- the runs that a backfill makes for the DAG of a row: none where it has no schedule
abbrev pub backfill_of_row : ℕ → ℕ → DagRow → List NewRun
backfill_of_row first last row =
    option_map_or (λ schedule. backfill_runs row.dag (is_scheduled schedule) first last) row.dag.schedule []

-- the runs that a backfill makes for the DAG of this id: none where it is not there
abbrev pub backfill_of : StateRows → List ℕ → ℕ → ℕ → List NewRun
backfill_of state dag_id first last = option_map_or (backfill_of_row first last) (dag_of state.dags dag_id) []

-- whether neither the id nor the date of a new run is taken
abbrev pub is_free : StateRows → NewRun → Bool
is_free state new = not (is_taken state.runs new.dag_id new.run_id new.logical_date)

-- the state with these runs, in their order; one whose id or whose date is taken, or for which there is no room, is passed over
abbrev pub backfilled : StateRows → List NewRun → StateRows
backfilled state news = fold with_run state news

-- ---- what a backfill leaves, in words of its own
-- the first dates are some of the second ones, in their order
abbrev pub AreSomeOf : List ℕ → List ℕ → Type 0
AreSomeOf dates [] = dates ≡ []
AreSomeOf dates (at ∷ all) = AreSomeOf dates all ⊎ ((rest : List ℕ) × (dates ≡ at ∷ rest) × AreSomeOf rest all)

-- a run that a backfill made for a DAG, of the interval that begins at its date and ends at the next point
pub record IsBackfilled (dag : DagSpec) (is_point : ℕ → Bool) (run : Run) : Type 0 where
  pub of_dag : run.dag_id ≡ dag.dag_id
  pub named : run.run_id ≡ backfill_id run.logical_date
  pub begins : run.interval.start ≡ run.logical_date
  pub ends : next_after is_point run.logical_date ≡ Some run.interval.end
  pub made : run.run_type ≡ Backfill
  pub queued : run.state ≡ Queued
  pub undated : (run.start_date ≡ None) × (run.end_date ≡ None)
  pub untried : run.instances ≡ new_instances dag.tasks

-- what a backfill of a range leaves of a state: the runs that were there, and after them new ones, numbered on. They are of points of
-- the range, in order, whose dates and ids were free; of each point of the range the date or the id is then taken. All else is the same
pub record Backfills (dag : DagSpec) (is_point : ℕ → Bool) (first last : ℕ) (old new : StateRows) : Type 0 where
  pub added : List Run
  pub rest : new ≡ record old { runs = old.runs ++ added; next_run = old.next_run + length added }
  pub numbers : map (λ run. run.number) added ≡ range_with_len old.next_run (length added)
  pub each : All (IsBackfilled dag is_point) added
  pub dates : AreSomeOf (map (λ run. run.logical_date) added) (points_within is_point first last)
  pub free : All (λ run. is_taken old.runs run.dag_id run.run_id run.logical_date ≡ false) added
  pub filled : All (λ at. is_taken new.runs dag.dag_id (backfill_id at) at ≡ true) (points_within is_point first last)
