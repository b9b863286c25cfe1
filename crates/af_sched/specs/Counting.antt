-- How the slots that instances hold of pools are counted. No public contract cites this file.
use Rattle.std.specs.Prelude.{ℕ, ◌≡◌, ◌+◌, ◌-◌, ◌^◌, List, ◌++◌, map, min}
use Rattle.af_graph.specs.declared.task_state.TaskState.{TaskState}
use Rattle.af_graph.specs.declared.task_state.TaskState.TheVariants.{Queued, Running}
use Rattle.af_pool.specs.Occupants.{slots_in}
use Rattle.af_pool.specs.declared.pool.Pool.{Pool}
use Rattle.af_sched.specs.Placed.{Placed}
use Rattle.af_sched.specs.Queue.{occupant_of}
use Rattle.af_sched.specs.declared.held.Held.{Held}

-- what these instances hold of the pool of this name
abbrev pub count_of : List Placed → List ℕ → Held
count_of all name = record {
  queued = min (slots_in Queued name (map occupant_of all)) (2 ^ 64 - 1);
  running = min (slots_in Running name (map occupant_of all)) (2 ^ 64 - 1);
}

-- what they hold of each of these pools
abbrev pub counts_of : List Placed → List Pool → List Held
counts_of all pools = map (λ pool. count_of all pool.name) pools

-- where the first counts are of some instances, the others are of those and of more
abbrev pub CountsMore : List Placed → List Pool → List Held → List Held → Type 0
CountsMore more pools one other = (seen : List Placed) → one ≡ counts_of seen pools → other ≡ counts_of (seen ++ more) pools

-- what is held, once an instance in a state holds so many slots too
abbrev pub with_slots : TaskState → ℕ → Held → Held
with_slots Queued slots held = record held { queued = min (held.queued + slots) (2 ^ 64 - 1) }
with_slots Running slots held = record held { running = min (held.running + slots) (2 ^ 64 - 1) }
with_slots _ slots held = held
