-- The slots of pools that instances hold (Airflow 2, "Pools": queued and running slots).
use Rattle.std.specs.Prelude.{ℕ, ◌-◌, ◌^◌, List, drop, map, min, take}
use Rattle.af_graph.specs.declared.task_state.TaskState.{TaskState}
use Rattle.af_graph.specs.declared.task_state.TaskState.TheVariants.{Queued, Running}
use Rattle.af_pool.specs.Pools.{occupied_in}
use Rattle.af_sched.specs.Placed.{placed_in}
use Rattle.af_sched.specs.Queue.{occupant_of}
use Rattle.af_sched.specs.State.{StateRows}
use Rattle.af_sched.specs.declared.held.Held.{Held}

-- the slots of the pool of this name that instances in one state hold, of all runs; 0 where there is no such pool
abbrev pub held_in : TaskState → StateRows → List ℕ → ℕ
held_in task_state state name = occupied_in task_state state.pools name (map occupant_of (placed_in state.dags state.runs))

-- what is told of them: each as a number below 2^64, the largest where it is more
abbrev pub held_of : StateRows → List ℕ → Held
held_of state name = record { queued = min (held_in Queued state name) (2 ^ 64 - 1); running = min (held_in Running state name) (2 ^ 64 - 1) }

-- what is told of each pool of a page: of so many of the pools, after so many
abbrev pub page_held : StateRows → ℕ → ℕ → List Held
page_held state limit offset = map (λ pool. held_of state pool.name) (take limit (drop offset state.pools))
