-- Laws about ticks and claims, in words of their own.
use Rattle.std.specs.Prelude.{ℕ, ◌≡◌, ◌<◌, ◌≤◌, ◌↔◌, ◌+◌, ◌-◌, ◌^◌, ◌&&◌, List, [], Bool, true, false, All, Option, Some, None, MatchOption, filter, length, max, min, Contains, sum_by, zip}
use Rattle.std.specs.List.Sorted.{IsStrictlySortedBy}
use Rattle.std.specs.Ordering.{nat_cmp}
use Rattle.af_names.specs.Instants.{last_micros}
use Rattle.af_graph.specs.Definition.{fault_of}
use Rattle.af_graph.specs.Graph.{same_name}
use Rattle.af_graph.specs.States.{same_state}
use Rattle.af_graph.specs.declared.dag_spec.DagSpec.{DagSpec}
use Rattle.af_graph.specs.declared.task_spec.TaskSpec.{TaskSpec}
use Rattle.af_graph.specs.declared.task_state.TaskState.{TaskState}
use Rattle.af_graph.specs.declared.task_state.TaskState.TheVariants.{Queued, Running}
use Rattle.af_pool.specs.Pools.{has_pool, slots_of}
use Rattle.af_runs.specs.Busy.{busy_of, holders_of}
use Rattle.af_runs.specs.Runs.{AreRuns, has_room, is_finished, run_at, without_run}
use Rattle.af_runs.specs.declared.instance.Instance.{Instance}
use Rattle.af_runs.specs.declared.run.Run.{Run}
use Rattle.af_sched.specs.Backfills.{Backfills, backfill_runs, backfilled, is_free, points_within}
use Rattle.af_sched.specs.Claims.{Claims, ClaimsNone, IsNextClaim}
use Rattle.af_sched.specs.Create.{runs_of_row}
use Rattle.af_sched.specs.Due.{moved_cursor, next_after, taken_points}
use Rattle.af_sched.specs.Finish.{ends}
use Rattle.af_sched.specs.Placed.{Placed, placed_in}
use Rattle.af_sched.specs.Holding.{held_of}
use Rattle.af_sched.specs.Queue.{Queues, finds_room, may_queue, occupied}
use Rattle.af_sched.specs.Reports.{report_fault}
use Rattle.af_sched.specs.Settle.{SettlesInstances, Settles, is_live}
use Rattle.af_sched.specs.Start.{starts}
use Rattle.af_sched.specs.State.{StateRows, AreRows, tasks_of}
use Rattle.af_sched.specs.Tick.{IsTick}
use Rattle.af_sched.specs.declared.claim.Claim.{Claim}
use Rattle.af_sched.specs.declared.report_fault.ReportFault.TheVariants.{NoSuchInstance}

-- since a definition without a fault has no cycle, the rules leave one way in which a run's instances may be settled
abbrev pub SettlingIsOne : Type 0
SettlingIsOne =
    (t : ℕ) (tasks : List TaskSpec) (old one other : List Instance) → fault_of tasks ≡ None → length old ≡ length tasks → SettlesInstances t tasks old one → SettlesInstances t tasks old other → one ≡ other

-- the third phase leaves one state
abbrev pub SettledStateIsOne : Type 0
SettledStateIsOne = (t : ℕ) (old one other : StateRows) → AreRows old.dags old.runs → Settles t old one → Settles t old other → one ≡ other

-- the fourth phase leaves one state: what is queued at an instance goes by what is queued before it
abbrev pub QueuedStateIsOne : Type 0
QueuedStateIsOne = (old one other : StateRows) → AreRows old.dags old.runs → Queues old one → Queues old other → one ≡ other

-- a tick leaves one state
abbrev pub TickIsOne : Type 0
TickIsOne = (t : ℕ) (old one other : StateRows) → AreRows old.dags old.runs → IsTick t old one → IsTick t old other → one ≡ other

-- after a tick the rows are as they are at all times
abbrev pub TickKeepsRows : Type 0
TickKeepsRows = (t : ℕ) (old new : StateRows) → AreRows old.dags old.runs → IsTick t old new → AreRows new.dags new.runs

-- after a tick the slots occupied in a pool are at most the greater of its slots and of what was occupied before
abbrev pub SlotsAreKept : Type 0
SlotsAreKept =
    (t : ℕ) (old new : StateRows) (pool : List ℕ) → AreRuns old.runs old.next_run → IsTick t old new → occupied new.dags new.runs pool ≤ max (slots_of new.pools pool) (occupied old.dags old.runs pool)

-- a run that has ended keeps its state and its dates through a tick
abbrev pub EndedRunsStay : Type 0
EndedRunsStay =
    (t : ℕ) (old new : StateRows) (run : Run) → IsTick t old new → Contains old.runs run → is_finished run.state ≡ true → (later : Run) × Contains new.runs later × (later ≡ record run { instances = later.instances })

-- no tick takes a point that an earlier one took: the points taken from where a cursor has moved to are beyond them
abbrev pub NoPointIsTakenTwice : Type 0
NoPointIsTakenTwice =
    (catchup : Bool) (is_point : ℕ → Bool) (cursor later t u point : ℕ) → moved_cursor is_point (taken_points catchup is_point cursor t) cursor ≡ Some later → Contains (taken_points catchup is_point cursor t) point → Contains (taken_points catchup is_point later u) point → ⊥

-- a tick does not lower the number that the next run gets; and a number below it that no run has before the tick, since the run
-- that it was given to was taken out, no run has after it
abbrev pub TickGivesNewNumbers : Type 0
TickGivesNewNumbers =
    (t : ℕ) (old new : StateRows) → IsTick t old new → (old.next_run ≤ new.next_run) × ((number : ℕ) → number < old.next_run → run_at old.runs number ≡ None → run_at new.runs number ≡ None)

-- nothing is due at t: no point is, no run is to start or to end, the instances of running runs of unpaused DAGs are
-- settled as they are, and none that may be queued finds room
pub record NothingIsDue (t : ℕ) (state : StateRows) : Type 0 where
  pub creates_none : All (λ row. runs_of_row t row ≡ []) state.dags
  pub starts_none : All (λ run. starts state.dags state.runs run ≡ false) state.runs
  pub settles_none : All (λ run. is_live state.dags run ≡ true → SettlesInstances t (tasks_of state.dags run.dag_id) run.instances run.instances) state.runs
  pub queues_none : (placed : Placed) → Contains (placed_in state.dags state.runs) placed → (may_queue state.dags placed && finds_room state.dags state.runs state.pools (λ _ _. false) placed) ≡ false
  pub ends_none : All (λ run. ends run ≡ false) state.runs

-- a tick leaves the state as it was exactly where nothing is due
abbrev pub NothingChangesExactlyWhereNothingIsDue : Type 0
NothingChangesExactlyWhereNothingIsDue =
    (t : ℕ) (old new : StateRows) → AreRows old.dags old.runs → IsTick t old new → NothingIsDue t old ↔ (new ≡ old)

-- what a claim at t leaves and tells, or that there is nothing to claim
abbrev pub IsClaim : ℕ → StateRows → StateRows → Option Claim → Type 0
IsClaim t old new told = MatchOption told (ClaimsNone old new) (Claims t old new)

-- a report of an instance of a run that was taken out finds none
abbrev pub ReportsOfRemovedRunsFindNone : Type 0
ReportsOfRemovedRunsFindNone =
    (state : StateRows) (claim : Claim) → report_fault (record state { runs = without_run state.runs claim.run_number }) claim ≡ Some NoSuchInstance

-- a claim leaves one state, and tells one thing
abbrev pub ClaimIsOne : Type 0
ClaimIsOne =
    (t : ℕ) (old one other : StateRows) (first second : Option Claim) → AreRuns old.runs old.next_run → IsClaim t old one first → IsClaim t old other second → (one ≡ other) × (first ≡ second)

-- a claim at any moment tells what was told before it
abbrev pub ClaimTellsTheNext : Type 0
ClaimTellsTheNext =
    (t : ℕ) (old new : StateRows) (next told : Option Claim) → AreRuns old.runs old.next_run → IsNextClaim old next → IsClaim t old new told → next ≡ told

-- the slots that are held are those which the runs hold of which an instance is queued or running, and those which the busy runs
-- hold: no other run holds any
abbrev pub HoldersHoldAllSlots : Type 0
HoldersHoldAllSlots =
    (state : StateRows) (name : List ℕ) → (held_of (record state { runs = holders_of state.runs }) name ≡ held_of state name) × (held_of (record state { runs = busy_of state.runs }) name ≡ held_of state name)

-- the slots that instances of a run of these tasks take of the pool of this name: those of each task that names the pool and whose
-- instance is in this state
abbrev pub slots_in_run : TaskState → List ℕ → List TaskSpec → Run → ℕ
slots_in_run task_state name tasks run =
    sum_by (λ row. row.0.pool_slots) (filter (λ row. same_name row.0.pool name && same_state row.1.state task_state) (zip tasks run.instances))

-- such slots of all runs together
abbrev pub slots_in_runs : TaskState → StateRows → List ℕ → ℕ
slots_in_runs task_state state name = sum_by (λ run. slots_in_run task_state name (tasks_of state.dags run.dag_id) run) state.runs

-- what is told queued in a pool are the slots of exactly its instances that are queued, of all runs, and what is told running those
-- of exactly its running ones, as numbers below 2^64; both together are the slots that are occupied in it
abbrev pub HeldSlotsAreThoseOfInstances : Type 0
HeldSlotsAreThoseOfInstances =
    (state : StateRows) (name : List ℕ) → has_pool state.pools name ≡ true
    → (held_of state name ≡ record { queued = min (slots_in_runs Queued state name) (2 ^ 64 - 1); running = min (slots_in_runs Running state name) (2 ^ 64 - 1) })
    × (slots_in_runs Queued state name + slots_in_runs Running state name ≡ occupied state.dags state.runs name)

-- the points of a range are in rising order. They are the points of the schedule from the first date to the last one, both included,
-- that have a next point which is an instant
abbrev pub PointsOfARange : Type 0
PointsOfARange =
    (is_point : ℕ → Bool) (first last : ℕ)
    → IsStrictlySortedBy nat_cmp (points_within is_point first last)
    × ((at : ℕ) → Contains (points_within is_point first last) at ↔ ((is_point at ≡ true) × (first ≤ at) × (at ≤ last) × ((end : ℕ) × (next_after is_point at ≡ Some end) × (end ≤ last_micros))))

-- a backfill fills its range, where there is room for all its runs whose ids and dates are free
abbrev pub BackfillFillsItsRange : Type 0
BackfillFillsItsRange =
    (dag : DagSpec) (is_point : ℕ → Bool) (first last : ℕ) (state : StateRows)
    → has_room state.runs state.next_run dag.dag_id (length (filter (is_free state) (backfill_runs dag is_point first last))) ≡ true
    → Backfills dag is_point first last state (backfilled state (backfill_runs dag is_point first last))
