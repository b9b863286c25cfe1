-- What a permitted operation on pools does. Pools are not cut by what the user reads of DAGs: a pool's slots are those that the
-- instances of all DAGs hold (Airflow 2, "Pools").
use Rattle.std.specs.Prelude.{ℕ, List, ◌==◌, map, zip, length, Option, Some, None, ok_or, Result, Ok, Err, codes, ⊤, if◌then◌else◌}
use Rattle.serde_json.specs.Data.{Data}
use Rattle.serde_json.specs.Written.{compact_text}
use Rattle.af_base.specs.Readings.{◌>>=◌}
use Rattle.af_listing.specs.Pages.{cut}
use Rattle.af_listing.specs.Windows.{Cut}
use Rattle.af_policy.specs.declared.bad_input.Parameter.{Parameter}
use Rattle.af_pool.specs.Pools.{add_fault, pool_of, remove_fault, set_fault, with_pool, with_slots, without_pool}
use Rattle.af_pool.specs.declared.fault.PoolFault.{PoolFault}
use Rattle.af_pool.specs.declared.fault.PoolFault.TheVariants as pool_fault
use Rattle.af_pool.specs.declared.pool.Pool.{Pool}
use Rattle.af_sched.specs.Holding.{held_of}
use Rattle.af_sched.specs.State.{StateRows, pools_of_row}
use Rattle.af_sched.specs.declared.held.Held.{Held}
use Rattle.af_ops.specs.declared.answer.OpFault.{OpFault}
use Rattle.af_ops.specs.declared.answer.OpFault.TheVariants as fault
use Rattle.af_ops.specs.declared.body_fault.BodyFault.{BodyFault}
use Rattle.af_ops.specs.declared.body_fault.Member.TheVariants.{Slots}
use Rattle.af_ops.specs.declared.pool_op.PoolOp.{PoolOp}
use Rattle.af_ops.specs.declared.pool_op.PoolOp.TheVariants as pool_op
use Rattle.af_ops.specs.EffectParts.{Effect, changed_to, input_or, kept, left_with, window_or}
use Rattle.af_ops.specs.Fields.{listing_of}
use Rattle.af_ops.specs.Replies.{pool_data}
use Rattle.af_ops.specs.Rows.{PoolTold}

-- ---- faults

-- how the fault of a change of pools is told
abbrev pub told_fault : PoolFault → OpFault
told_fault pool_fault.BadSlots = fault.BadMember Slots
told_fault pool_fault.NoSuchPool = fault.NoSuchPool
told_fault pool_fault.Exists = fault.Exists
told_fault pool_fault.DefaultPool = fault.DefaultPool
told_fault pool_fault.InUse = fault.InUse
told_fault pool_fault.Full = fault.TooMany
told_fault pool_fault.OutOfMemory = fault.OutOfMemory

abbrev pub unless_fault : Option PoolFault → Result ⊤ OpFault
unless_fault None = Ok tt
unless_fault (Some why) = Err (told_fault why)

-- the pool of a name
abbrev pub pool_or : StateRows → List ℕ → Result Pool OpFault
pool_or state name = ok_or (pool_of state.pools name) fault.NoSuchPool

-- the pool of a name, where it may have these slots
abbrev pub settable : StateRows → List ℕ → ℕ → Result Pool OpFault
settable state name slots = do
  free ← unless_fault (set_fault state.pools name slots)
  pool_or state name

-- ---- the operations

-- a pool of this name and these slots, with what instances hold of it
abbrev pub pool_told : StateRows → List ℕ → ℕ → PoolTold
pool_told state name slots = record { name = name; slots = slots; held = held_of state name }

abbrev pub told : StateRows → Pool → Data
told state pool = pool_data (pool_told state pool.name pool.slots)

-- pools, each with what instances hold of it
abbrev pub listed : List Pool → List Held → List PoolTold
listed pools held = map (λ at. record { name = at.0.name; slots = at.0.slots; held = at.1 }) (zip pools held)

-- the pools of a page, by name, and how many there are
abbrev pub pools_data : Cut → StateRows → Data
pools_data window state = listing_of (codes "pools") (map (told state) (cut window state.pools)) (length state.pools)

abbrev pub listed_pools : StateRows → Result Cut Parameter → Result Effect OpFault
listed_pools state asked = do
  window ← window_or asked
  Ok (kept (pools_data window state))

-- a pool is added, and told
abbrev pub adding : StateRows → Pool → Effect
adding state pool = changed_to (record state { pools = with_pool state.pools pool }) (told state pool)

abbrev pub pool_added : StateRows → Result Pool BodyFault → Result Effect OpFault
pool_added state input = do
  pool ← input_or input
  free ← unless_fault (add_fault state.pools pool.name pool.slots)
  Ok (adding state pool)

-- one pool
abbrev pub got_pool : StateRows → List ℕ → Result Effect OpFault
got_pool state name = do
  pool ← pool_or state name
  Ok (kept (told state pool))

-- a pool with other slots, and told as it then stands; where it has these already, nothing changes
abbrev pub setting : StateRows → List ℕ → Pool → ℕ → Effect
setting state name pool slots = record {
  reply = Some (compact_text (pool_data (pool_told state pool.name slots)));
  next = if pool.slots == slots then None else Some (record state { pools = with_slots state.pools name slots });
}

abbrev pub pool_changed : StateRows → List ℕ → Result ℕ BodyFault → Result Effect OpFault
pool_changed state name input = do
  slots ← input_or input
  pool ← settable state name slots
  Ok (setting state name pool slots)

-- a pool is deleted, which is neither the default pool nor named by a task
abbrev pub pool_deleted : StateRows → List ℕ → Result Effect OpFault
pool_deleted state name = do
  free ← unless_fault (remove_fault pools_of_row state.dags state.pools name)
  Ok (left_with (record state { pools = without_pool state.pools name }))

abbrev pub pool_effect : StateRows → PoolOp → Result Effect OpFault
pool_effect state (pool_op.List asked) = listed_pools state asked
pool_effect state (pool_op.Add input) = pool_added state input
pool_effect state (pool_op.Get name) = got_pool state name
pool_effect state (pool_op.Change name input) = pool_changed state name input
pool_effect state (pool_op.Delete name) = pool_deleted state name
