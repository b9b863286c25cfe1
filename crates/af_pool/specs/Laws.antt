-- Laws about slots, in words of their own.
use Rattle.std.specs.Prelude.{ℕ, ◌≡◌, ◌+◌, List, max}
use Rattle.af_graph.specs.declared.task_state.TaskState.TheVariants.{Queued, Running}
use Rattle.af_pool.specs.declared.pool.Pool.{Pool}
use Rattle.af_pool.specs.Occupants.{OccupantRow}
use Rattle.af_pool.specs.Pools.{slots_of, occupied_slots, occupied_in, open_slots}

-- what is occupied is what is queued and what is running
abbrev pub OccupiedIsQueuedAndRunning : Type 0
OccupiedIsQueuedAndRunning = (pools : List Pool) (name : List ℕ) (occupants : List OccupantRow) → occupied_slots pools name occupants ≡ occupied_in Queued pools name occupants + occupied_in Running pools name occupants

-- occupied and open slots fill the pool, or what is occupied is more than it has
abbrev pub OpenFillsThePool : Type 0
OpenFillsThePool = (pools : List Pool) (name : List ℕ) (occupants : List OccupantRow) → occupied_slots pools name occupants + open_slots pools name occupants ≡ max (slots_of pools name) (occupied_slots pools name occupants)
