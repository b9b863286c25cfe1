-- What a tick or a backfill will leave of a state, worked out before it is done (this product's own rule).
use Rattle.std.specs.Prelude.{ℕ, ◌≡◌, ◌≤◌, ◌↔◌, ◌++◌, List, [], Bool, false, All, map, zip, fold, length, Option}
use Rattle.af_runs.specs.Runs.{AreRuns, with_advanced}
use Rattle.af_runs.specs.declared.run.Run.{Run}
use Rattle.af_runs.specs.Busy.{busy_of}
use Rattle.af_sched.specs.State.{StateRows, IsWhole}
use Rattle.af_sched.specs.Tick.{IsTick}
use Rattle.af_sched.specs.declared.dag_row.DagRow.{DagRow}

-- the cursors of all DAGs, in order of the DAGs, runs of the state as they will be, those that are added, the number that
-- the next run gets, and whether these are a change
pub record PlanRows : Type 0 where
  pub cursors : List (Option ℕ)
  pub moved : List Run
  pub added : List Run
  pub next_run : ℕ
  pub changes : Bool

-- the DAGs with these cursors
abbrev pub with_cursors : List DagRow → List (Option ℕ) → List DagRow
with_cursors dags cursors = map (λ pair. record pair.0 { cursor = pair.1 }) (zip dags cursors)

-- the runs once the plan is done: those of the numbers of the moved ones are advanced to them, and the added ones come last
abbrev pub runs_after : PlanRows → List Run → List Run
runs_after plan runs = fold with_advanced runs plan.moved ++ plan.added

-- a state once the plan is done
abbrev pub applied : PlanRows → StateRows → StateRows
applied plan state =
    record state { dags = with_cursors state.dags plan.cursors; runs = runs_after plan state.runs; next_run = plan.next_run }

-- a plan that may be done on a state where there is room for the runs that it adds: there is a cursor for each DAG, the next
-- number does not fall, each run that it leaves is whole, and these runs are as runs are at all times
pub record Fits (plan : PlanRows) (state : StateRows) : Type 0 where
  pub count : length plan.cursors ≡ length state.dags
  pub numbers : state.next_run ≤ plan.next_run
  pub whole : All (IsWhole state.dags) (runs_after plan state.runs)
  pub kept : AreRuns (runs_after plan state.runs) plan.next_run

-- whether a state has these cursors and these as its busy runs, and no run is added
abbrev pub HasRows : StateRows → List (Option ℕ) → List Run → List Run → Type 0
HasRows state cursors moved added = (with_cursors state.dags cursors ≡ state.dags) × (moved ≡ busy_of state.runs) × (added ≡ [])

-- a plan for a tick at t on a state: of the state's runs it holds the busy ones, as they will be, and it tells whether the
-- tick changes the state
pub record IsPlan (t : ℕ) (state : StateRows) (plan : PlanRows) : Type 0 where
  pub fits : Fits plan state
  pub tick : IsTick t state (applied plan state)
  pub busy : map (λ run. run.number) plan.moved ≡ map (λ run. run.number) (busy_of state.runs)
  pub changed : (plan.changes ≡ false) ↔ (applied plan state ≡ state)
