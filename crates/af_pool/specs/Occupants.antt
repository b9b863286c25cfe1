-- What task instances hold of pools (Airflow 2, "Pools"). That an instance holds its slots from the moment when it is
-- queued until it has run is this product's own rule.
use Rattle.std.specs.Prelude.{ℕ, List, Bool, true, false, ◌&&◌, sum_by, filter}
use Rattle.af_graph.specs.Graph.{same_name}
use Rattle.af_graph.specs.States.{same_state}
use Rattle.af_graph.specs.declared.task_state.TaskState.{TaskState}
use Rattle.af_graph.specs.declared.task_state.TaskState.TheVariants.{Queued, Running}

-- a task instance as pools see it: the pool that its task names, the slots that it takes there, and its state
pub record OccupantRow : Type 0 where
  pub pool : List ℕ
  pub slots : ℕ
  pub state : TaskState

-- whether an instance in this state holds slots
abbrev pub holds_slots : TaskState → Bool
holds_slots Queued = true
holds_slots Running = true
holds_slots _ = false

-- whether an instance holds slots of the pool of this name
abbrev pub occupies : List ℕ → OccupantRow → Bool
occupies name occupant = same_name occupant.pool name && holds_slots occupant.state

-- whether an instance is in this state, and its task names the pool of this name
abbrev pub is_there_in : TaskState → List ℕ → OccupantRow → Bool
is_there_in state name occupant = same_name occupant.pool name && same_state occupant.state state

-- the slots of these instances together
abbrev pub slots_of_all : List OccupantRow → ℕ
slots_of_all occupants = sum_by (λ occupant. occupant.slots) occupants

-- the slots that instances hold of the pool of this name
abbrev pub slots_taken : List ℕ → List OccupantRow → ℕ
slots_taken name occupants = slots_of_all (filter (occupies name) occupants)

-- the slots that instances in this state take of the pool of this name
abbrev pub slots_in : TaskState → List ℕ → List OccupantRow → ℕ
slots_in state name occupants = slots_of_all (filter (is_there_in state name) occupants)
