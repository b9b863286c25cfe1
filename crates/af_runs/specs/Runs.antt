-- Runs of DAGs: one list of rows in order of number, each with its instances (Airflow 2, "DAG Runs"). Numbers, and the
-- limits, are this product's own rule.
use Rattle.std.specs.Prelude.{ℕ, ◌≡◌, ◌+◌, ◌^◌, ◌<◌, ◌≤◌, ◌==◌, ◌&&◌, ◌||◌, List, [], ◌∷◌, ◌++◌, Bool, true, false, not, length, map, filter, find, option_map, slice_set, All, nat_le, Option, Some, None, Result, IfErr, if◌then◌else◌}
use Rattle.std.specs.List.{list_any, IsDistinct}
use Rattle.std.specs.List.Sorted.{IsStrictlySortedBy}
use Rattle.std.specs.Ordering.{nat_cmp}
use Rattle.af_graph.specs.Graph.{same_name}
use Rattle.af_runs.specs.declared.instance.Instance.{Instance}
use Rattle.af_runs.specs.declared.new_run.NewRun.{NewRun}
use Rattle.af_runs.specs.declared.run.Run.{Run}
use Rattle.af_runs.specs.declared.run_fault.RunFault.{RunFault}
use Rattle.af_runs.specs.declared.run_fault.RunFault.TheVariants.{RunExists, DateTaken, Full, OutOfMemory}
use Rattle.af_runs.specs.declared.run_state.RunState.{RunState}
use Rattle.af_runs.specs.declared.run_state.RunState.TheVariants.{Queued, Running, Success, Failed}

-- the runs: their rows in order of number, the number that the next run gets, and for how many more rows memory is
-- reserved
pub record RunRows : Type 0 where
  pub rows : List Run
  pub next : ℕ
  pub spare : ℕ

-- whether the run is one of the DAG of this id
abbrev pub is_of : List ℕ → Run → Bool
is_of dag_id run = same_name run.dag_id dag_id

-- whether the run is that of these ids of DAG and run
abbrev pub is_run : List ℕ → List ℕ → Run → Bool
is_run dag_id run_id run = same_name run.dag_id dag_id && same_name run.run_id run_id

-- whether the run is the DAG's of this logical date
abbrev pub is_dated : List ℕ → ℕ → Run → Bool
is_dated dag_id date run = same_name run.dag_id dag_id && (run.logical_date == date)

-- whether the DAG has a run of this id, or one of this logical date
abbrev pub is_taken : List Run → List ℕ → List ℕ → ℕ → Bool
is_taken runs dag_id run_id date = list_any (is_run dag_id run_id) runs || list_any (is_dated dag_id date) runs

-- whether the run has this number
abbrev pub is_numbered : ℕ → Run → Bool
is_numbered number run = run.number == number

-- the run of these ids
abbrev pub run_of : List Run → List ℕ → List ℕ → Option Run
run_of runs dag_id run_id = find (is_run dag_id run_id) runs

-- the run of this number
abbrev pub run_at : List Run → ℕ → Option Run
run_at runs number = find (is_numbered number) runs

-- the instances of the run of these ids
abbrev pub instances_of : List Run → List ℕ → List ℕ → Option (List Instance)
instances_of runs dag_id run_id = option_map (λ run. run.instances) (run_of runs dag_id run_id)

-- the runs of a DAG
abbrev pub runs_of : List Run → List ℕ → List Run
runs_of runs dag_id = filter (is_of dag_id) runs

-- whether a run in this state has ended
abbrev pub is_finished : RunState → Bool
is_finished Queued = false
is_finished Running = false
is_finished Success = true
is_finished Failed = true

-- whether the DAG has as many runs as it may have, or no number is left for another
abbrev pub is_full : List Run → ℕ → List ℕ → Bool
is_full runs next dag_id = nat_le 65_536 (length (runs_of runs dag_id)) || nat_le (2 ^ 64) next

-- whether the DAG may have so many more runs, and as many numbers are left for them
abbrev pub has_room : List Run → ℕ → List ℕ → ℕ → Bool
has_room runs next dag_id count = nat_le (length (runs_of runs dag_id) + count) 65_536 && nat_le (next + count) (2 ^ 64)

-- why a run of these ids and this logical date is not added, memory aside: the first of these faults
abbrev pub add_fault : List Run → ℕ → List ℕ → List ℕ → ℕ → Option RunFault
add_fault runs next dag_id run_id date =
    if list_any (is_run dag_id run_id) runs then Some RunExists
    else (if list_any (is_dated dag_id date) runs then Some DateTaken
    else (if is_full runs next dag_id then Some Full else None))

-- why a new run is not added, memory aside
abbrev pub refusal : RunRows → NewRun → Option RunFault
refusal runs new = add_fault runs.rows runs.next new.dag_id new.run_id new.logical_date

-- the row of a new run: it is queued
abbrev pub queued_run : ℕ → NewRun → Run
queued_run number new = record {
  number = number;
  dag_id = new.dag_id;
  run_id = new.run_id;
  logical_date = new.logical_date;
  interval = new.interval;
  run_type = new.run_type;
  state = Queued;
  start_date = None;
  end_date = None;
  instances = new.instances;
}

-- a new run was added last, under this number
pub record Adds (old new : RunRows) (run : NewRun) (number : ℕ) : Type 0 where
  pub next_number : number ≡ old.next
  pub row : new.rows ≡ old.rows ++ queued_run number run ∷ []
  pub next : new.next ≡ old.next + 1

-- rows and next number are the same
pub record SameRuns (old new : RunRows) : Type 0 where
  pub rows : new.rows ≡ old.rows
  pub next : new.next ≡ old.next

-- the call succeeded, or a growth of memory was refused
abbrev pub IsOkOrOutOfMemory : {T : Type 0} → Result T RunFault → Type 0
IsOkOrOutOfMemory result = IfErr result (λ fault. fault ≡ OutOfMemory)

-- the runs, that of this number in another state, with its start and its end
abbrev pub with_state : List Run → ℕ → RunState → Option ℕ → Option ℕ → List Run
with_state runs number state start end =
    map (λ run. if is_numbered number run then record run { state = state; start_date = start; end_date = end } else run) runs

-- the runs, the instance at a place of that of this number replaced; without such a run or place they are the same
abbrev pub with_instance : List Run → ℕ → ℕ → Instance → List Run
with_instance runs number place instance =
    map (λ run. if is_numbered number run then record run { instances = slice_set run.instances place instance } else run) runs

-- the runs without that of this number; without such a run they are the same
abbrev pub without_run : List Run → ℕ → List Run
without_run runs number = filter (λ run. not (is_numbered number run)) runs

-- a run with the state, the start, the end and the instances of another
abbrev pub advanced : Run → Run → Run
advanced run later = record run { state = later.state; start_date = later.start_date; end_date = later.end_date; instances = later.instances }

-- the runs, that of the later one's number advanced to it; without such a run they are the same
abbrev pub with_advanced : List Run → Run → List Run
with_advanced runs later = map (λ run. if is_numbered later.number run then advanced run later else run) runs

-- whether two runs are of one DAG and have one id
abbrev pub same_ids : Run → Run → Bool
same_ids run other = is_run run.dag_id run.run_id other

-- whether two runs are of one DAG and have one logical date
abbrev pub same_date : Run → Run → Bool
same_date run other = is_dated run.dag_id run.logical_date other

-- a run with the number, the ids and the date of another
pub record HasKeyOf (run other : Run) : Type 0 where
  pub number : other.number ≡ run.number
  pub dag_id : other.dag_id ≡ run.dag_id
  pub run_id : other.run_id ≡ run.run_id
  pub date : other.logical_date ≡ run.logical_date

-- what holds of the rows at all times
pub record AreRuns (runs : List Run) (next : ℕ) : Type 0 where
  -- each number is above those before it
  pub in_order : IsStrictlySortedBy nat_cmp (map (λ run. run.number) runs)
  pub positive : All (λ run. 0 < run.number) runs
  pub numbered : All (λ run. run.number < next) runs
  -- no two runs of a DAG have one id, or one logical date
  pub one_of_an_id : IsDistinct same_ids runs
  pub one_of_a_date : IsDistinct same_date runs
  pub bounded : (dag_id : List ℕ) → length (runs_of runs dag_id) ≤ 65_536
