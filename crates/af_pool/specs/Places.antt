-- Where the row of a pool stands that may be changed, or would stand that may be added.
use Rattle.std.specs.Prelude.{ℕ, ◌≡◌, ◌<◌, ◌≤◌, None, List, false, length}
use Rattle.af_pool.specs.declared.pool.Pool.{Pool}
use Rattle.af_graph.specs.Graph.{same_name}
use Rattle.af_graph.specs.Limits.{most_slots}
use Rattle.af_base.specs.Places.{StandsAt, FitsAt}
use Rattle.af_pool.specs.Pools.{name_of, add_fault, set_fault, remove_fault, is_in_use, default_name, most_pools}

-- a pool of this name with these slots may be added, and its row goes to this place
pub record CanAdd (pools : List Pool) (name : List ℕ) (slots place : ℕ) : Type 0 where
  pub no_fault : add_fault pools name slots ≡ None
  pub bounded : slots ≤ most_slots
  pub few : length pools < most_pools
  pub fits : FitsAt name_of pools name place

-- the pool of this name, whose row stands at this place, may get these slots
pub record CanSet (pools : List Pool) (name : List ℕ) (slots place : ℕ) : Type 0 where
  pub no_fault : set_fault pools name slots ≡ None
  pub bounded : slots ≤ most_slots
  pub stands : StandsAt name_of pools name place

-- the pool of this name, whose row stands at this place, may be removed
pub record CanRemove {X : Type 0} (pools_of : X → List (List ℕ)) (rows : List X) (pools : List Pool) (name : List ℕ) (place : ℕ) : Type 0 where
  pub no_fault : remove_fault pools_of rows pools name ≡ None
  pub free : is_in_use pools_of rows name ≡ false
  pub other : same_name name default_name ≡ false
  pub stands : StandsAt name_of pools name place
