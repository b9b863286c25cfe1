-- Where the row of a run stands.
use Rattle.std.specs.Prelude.{ℕ, ◌≡◌, ◌≢◌, ◌<◌, List, true, false, length, slice_index_or, take}
use Rattle.af_runs.specs.declared.run.Run.{Run}
use Rattle.af_runs.specs.Runs.{is_numbered, is_of, is_run, runs_of}
use Rattle.af_runs.specs.Wanted.{meets}
use Rattle.af_runs.specs.declared.wanted.Wanted.{Wanted}

-- the row at this place has the number, and no other row has it
pub record StandsAt (runs : List Run) (number place : ℕ) : Type 0 where
  pub within : place < length runs
  pub here : (d : Run) → is_numbered number (slice_index_or runs place d) ≡ true
  pub alone : (other : ℕ) (d : Run) → other < length runs → other ≢ place → is_numbered number (slice_index_or runs other d) ≡ false

-- no row has the number
pub record StandsNowhere (runs : List Run) (number : ℕ) : Type 0 where
  pub none : (other : ℕ) (d : Run) → other < length runs → is_numbered number (slice_index_or runs other d) ≡ false

-- the run at this place is the one that is wanted
pub record IsMetAt (wanted : Wanted) (runs : List Run) (place : ℕ) : Type 0 where
  pub within : place < length runs
  pub here : (d : Run) → meets wanted (slice_index_or runs place d) ≡ true

-- no run is the one that is wanted
pub record IsMetNowhere (wanted : Wanted) (runs : List Run) : Type 0 where
  pub none : (other : ℕ) (d : Run) → other < length runs → meets wanted (slice_index_or runs other d) ≡ false

-- the row at this place is that of the run at a place among those of a DAG
pub record IsNthOf (runs : List Run) (dag_id : List ℕ) (nth place : ℕ) : Type 0 where
  pub within : place < length runs
  pub here : (d : Run) → is_of dag_id (slice_index_or runs place d) ≡ true
  pub before : length (runs_of (take place runs) dag_id) ≡ nth

-- the row at this place is that of the run of these ids, and no other row is
pub record IsRunAt (runs : List Run) (dag_id run_id : List ℕ) (place : ℕ) : Type 0 where
  pub within : place < length runs
  pub here : (d : Run) → is_run dag_id run_id (slice_index_or runs place d) ≡ true
  pub alone : (other : ℕ) (d : Run) → other < length runs → other ≢ place → is_run dag_id run_id (slice_index_or runs other d) ≡ false

-- no row is that of the run of these ids
pub record IsRunNowhere (runs : List Run) (dag_id run_id : List ℕ) : Type 0 where
  pub none : (other : ℕ) (d : Run) → other < length runs → is_run dag_id run_id (slice_index_or runs other d) ≡ false
