-- The fourth phase of a tick: scheduled instances are queued where their pools have room (Airflow 2, "Pools"). That one
-- which finds no room is passed over, and holds up no later one, is this product's own rule.
use Rattle.std.specs.Prelude.{ℕ, ◌≡◌, ◌+◌, ◌&&◌, Bool, List, map, filter, nat_le, Contains, if◌then◌else◌}
use Rattle.std.specs.List.{enumerate_from}
use Rattle.af_graph.specs.Graph.{same_name}
use Rattle.af_graph.specs.States.{same_state}
use Rattle.af_graph.specs.declared.task_state.TaskState.TheVariants as task_state
use Rattle.af_pool.specs.Occupants.{OccupantRow, slots_of_all, slots_taken}
use Rattle.af_pool.specs.Pools.{slots_of}
use Rattle.af_pool.specs.declared.pool.Pool.{Pool}
use Rattle.af_runs.specs.declared.instance.Instance.{Instance}
use Rattle.af_runs.specs.declared.run.Run.{Run}
use Rattle.af_sched.specs.Placed.{Placed, placed_in, comes_before}
use Rattle.af_sched.specs.Settle.{is_live}
use Rattle.af_sched.specs.State.{StateRows}
use Rattle.af_sched.specs.declared.dag_row.DagRow.{DagRow}
use Rattle.af_vars.specs.declared.variable.Variable.{Variable}

-- an instance as pools see it
abbrev pub occupant_of : Placed → OccupantRow
occupant_of placed = record { pool = placed.task.pool; slots = placed.task.pool_slots; state = placed.instance.state }

-- the slots that the queued and running instances of all runs hold of a pool
abbrev pub occupied : List DagRow → List Run → List ℕ → ℕ
occupied dags runs pool = slots_taken pool (map occupant_of (placed_in dags runs))

-- whether an instance is one that the phase may queue: it is scheduled, and its run is running, of a DAG that is not paused
abbrev pub may_queue : List DagRow → Placed → Bool
may_queue dags placed = same_state placed.instance.state task_state.Scheduled && is_live dags placed.run

-- the slots of those instances that are queued, by the test, from the same pool before this one
abbrev pub queued_earlier : (ℕ → ℕ → Bool) → List Placed → Placed → ℕ
queued_earlier is_queued all placed =
    slots_of_all (map occupant_of (filter (λ other. is_queued other.run.number other.place && same_name other.task.pool placed.task.pool && comes_before other placed) all))

-- whether an instance finds room: its slots, those occupied in its pool before the phase, and those of the pool's
-- instances that are queued before it, sum to at most the pool's slots
abbrev pub finds_room : List DagRow → List Run → List Pool → (ℕ → ℕ → Bool) → Placed → Bool
finds_room dags runs pools is_queued placed =
    nat_le (placed.task.pool_slots + occupied dags runs placed.task.pool + queued_earlier is_queued (placed_in dags runs) placed) (slots_of pools placed.task.pool)

-- each instance of a run is queued exactly where it may be, and finds room
pub record IsQueueing (dags : List DagRow) (runs : List Run) (pools : List Pool) (is_queued : ℕ → ℕ → Bool) : Type 0 where
  pub exact : (placed : Placed) → Contains (placed_in dags runs) placed → is_queued placed.run.number placed.place ≡ (may_queue dags placed && finds_room dags runs pools is_queued placed)

-- an instance that is queued
abbrev pub queued_instance : Instance → Instance
queued_instance instance = record instance { state = task_state.Queued }

-- a run whose instances at these places are queued
abbrev pub with_queued : (ℕ → Bool) → Run → Run
with_queued is_queued run =
    record run { instances = map (λ row. if is_queued row.0 then queued_instance row.1 else row.1) (enumerate_from 0 run.instances) }

-- the state before and after the phase
pub record Queues (old new : StateRows) : Type 0 where
  -- whether the instance at a place of the run of a number is queued
  pub is_queued : ℕ → ℕ → Bool
  pub queueing : IsQueueing old.dags old.runs old.pools is_queued
  pub state : new ≡ record old { runs = map (λ run. with_queued (is_queued run.number) run) old.runs }

-- the runs before and after the phase, of these DAGs and pools
abbrev pub QueuesRuns : List DagRow → List Pool → List Run → List Run → Type 0
QueuesRuns dags pools old new =
    (next : ℕ) (variables : List Variable) → Queues (record { dags = dags; runs = old; next_run = next; pools = pools; variables = variables }) (record { dags = dags; runs = new; next_run = next; pools = pools; variables = variables })
