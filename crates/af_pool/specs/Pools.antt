-- Pools: rows by name in byte order (Airflow 2, "Pools"). The limits are this product's own rule.
use Rattle.std.specs.Prelude.{ℕ, ◌≡◌, ◌⊎◌, ◌-◌, ◌≤◌, List, map, Any, Contains, Bool, true, not, length, unwrap_or, option_map, All, nat_lt, nat_le, codes, Option, Some, None, Result, IfErr, if◌then◌else◌}
use Rattle.std.specs.List.{list_any}
pub use Rattle.af_base.specs.Ordered.{comes_before}
use Rattle.af_base.specs.Ordered.{Kept, AreInOrder, is_there, row_of, with_row, with_change, without_row}
use Rattle.af_graph.specs.Graph.{same_name}
use Rattle.af_graph.specs.Limits.{most_slots}
use Rattle.af_graph.specs.declared.dag_spec.DagSpec.{DagSpec}
use Rattle.af_graph.specs.declared.task_state.TaskState.{TaskState}
use Rattle.af_pool.specs.declared.pool.Pool.{Pool}
use Rattle.af_pool.specs.declared.fault.PoolFault.{PoolFault}
use Rattle.af_pool.specs.declared.fault.PoolFault.TheVariants.{BadSlots, NoSuchPool, Exists, DefaultPool, InUse, Full, OutOfMemory}
use Rattle.af_pool.specs.Occupants.{OccupantRow, slots_taken, slots_in}

-- the pools: their rows, by name in byte order, and for how many more rows memory is reserved
abbrev pub PoolRows : Type 0
PoolRows = Kept Pool

-- the name of the pool that is always there
abbrev pub default_name : List ℕ
default_name = codes "default_pool"

-- the most pools that there are
abbrev pub most_pools : ℕ
most_pools = 65_536

-- the key by which the rows are in order
abbrev pub name_of : Pool → List ℕ
name_of pool = pool.name

-- whether there is a pool of this name
abbrev pub has_pool : List Pool → List ℕ → Bool
has_pool pools name = is_there name_of pools name

-- the pool of this name
abbrev pub pool_of : List Pool → List ℕ → Option Pool
pool_of pools name = row_of name_of pools name

-- the slots of the pool of this name; 0 where there is none
abbrev pub slots_of : List Pool → List ℕ → ℕ
slots_of pools name = unwrap_or (option_map (λ pool. pool.slots) (pool_of pools name)) 0

-- the pools with one more, in its place by name
abbrev pub with_pool : List Pool → Pool → List Pool
with_pool pools pool = with_row name_of pools pool

-- the pools, that of this name with other slots
abbrev pub with_slots : List Pool → List ℕ → ℕ → List Pool
with_slots pools name slots = with_change name_of (λ pool. record pool { slots = slots }) pools name

-- the pools without that of this name
abbrev pub without_pool : List Pool → List ℕ → List Pool
without_pool pools name = without_row name_of pools name

-- the pools that the tasks of a DAG name
abbrev pub pools_of : DagSpec → List (List ℕ)
pools_of dag = map (λ task. task.pool) dag.tasks

-- whether a pool is among those that are named
abbrev pub is_named : List (List ℕ) → List ℕ → Bool
is_named pools name = list_any (λ pool. same_name pool name) pools

-- whether one of the rows names the pool
abbrev pub is_in_use : {X : Type 0} → (X → List (List ℕ)) → List X → List ℕ → Bool
is_in_use pools_of rows name = list_any (λ row. is_named (pools_of row) name) rows

-- the call succeeded, or a growth of memory was refused
abbrev pub IsOkOrOutOfMemory : {T : Type 0} → Result T PoolFault → Type 0
IsOkOrOutOfMemory result = IfErr result (λ fault. fault ≡ OutOfMemory)

-- why a pool is not added, memory aside: the first of these faults
abbrev pub add_fault : List Pool → List ℕ → ℕ → Option PoolFault
add_fault pools name slots =
    if nat_lt most_slots slots then Some BadSlots
    else (if has_pool pools name then Some Exists
    else (if nat_le most_pools (length pools) then Some Full else None))

-- why a pool does not get other slots: the first of these faults
abbrev pub set_fault : List Pool → List ℕ → ℕ → Option PoolFault
set_fault pools name slots =
    if nat_lt most_slots slots then Some BadSlots
    else (if not (has_pool pools name) then Some NoSuchPool else None)

-- why a pool is not removed: the first of these faults
abbrev pub remove_fault : {X : Type 0} → (X → List (List ℕ)) → List X → List Pool → List ℕ → Option PoolFault
remove_fault pools_of rows pools name =
    if not (has_pool pools name) then Some NoSuchPool
    else (if same_name name default_name then Some DefaultPool
    else (if is_in_use pools_of rows name then Some InUse else None))

-- the default pool, and each pool that a row names, is there afterwards if it was before
abbrev pub NeededStay : {X : Type 0} → (X → List (List ℕ)) → List X → List Pool → List Pool → Type 0
NeededStay pools_of rows old new =
    (name : List ℕ) → (name ≡ default_name) ⊎ Any (λ row. Contains (pools_of row) name) rows → has_pool old name ≡ true → has_pool new name ≡ true

-- the slots occupied in the pool of this name; 0 where there is none
abbrev pub occupied_slots : List Pool → List ℕ → List OccupantRow → ℕ
occupied_slots pools name occupants = if has_pool pools name then slots_taken name occupants else 0

-- those occupied by instances in one state
abbrev pub occupied_in : TaskState → List Pool → List ℕ → List OccupantRow → ℕ
occupied_in state pools name occupants = if has_pool pools name then slots_in state name occupants else 0

-- the slots open in the pool of this name: its slots less those occupied, at least 0; 0 where there is none
abbrev pub open_slots : List Pool → List ℕ → List OccupantRow → ℕ
open_slots pools name occupants = slots_of pools name - occupied_slots pools name occupants

-- what holds of the rows at all times
pub record ArePools (pools : List Pool) : Type 0 where
  -- they are in byte order of their names, and no two have one name
  pub in_order : AreInOrder name_of pools
  pub few : length pools ≤ most_pools
  pub bounded : All (λ pool. pool.slots ≤ most_slots) pools
  -- the default pool is there
  pub has_default : has_pool pools default_name ≡ true
