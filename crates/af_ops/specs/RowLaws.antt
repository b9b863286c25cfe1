-- Laws about the operations on pools and variables, in words of their own.
use Rattle.std.specs.Prelude.{◌≡◌, ◌<◌, ◌+◌, ◌^◌, ◌&&◌, ℕ, List, Bool, true, false, filter, map, max, nat_eq, sum_by, Some, None, Ok}
use Rattle.std.specs.Cmp.Lexicographic.{pointwise}
use Rattle.af_base.specs.Ordered.{AreInOrder}
use Rattle.af_graph.specs.Graph.{same_name}
use Rattle.af_graph.specs.States.{same_state}
use Rattle.af_graph.specs.declared.task_state.TaskState.{TaskState}
use Rattle.af_graph.specs.declared.task_state.TaskState.TheVariants.{Queued, Running}
use Rattle.af_listing.specs.Pages.{cut}
use Rattle.af_listing.specs.Windows.{Cut}
use Rattle.af_pool.specs.Pools.{NeededStay, has_pool, name_of, occupied_slots, pool_of, slots_of}
use Rattle.af_pool.specs.declared.pool.Pool.{Pool}
use Rattle.af_sched.specs.Holding.{held_of}
use Rattle.af_sched.specs.Placed.{Placed, placed_in}
use Rattle.af_sched.specs.Queue.{occupant_of}
use Rattle.af_sched.specs.State.{StateRows, pools_of_row}
use Rattle.af_vars.specs.Variables.{key_of, variable_of}
use Rattle.af_vars.specs.declared.variable.Variable.{Variable}
use Rattle.af_policy.specs.Grants.{Readable}
use Rattle.af_ops.specs.declared.op.Op.{Op}
use Rattle.af_ops.specs.declared.op.Op.TheVariants as op
use Rattle.af_ops.specs.declared.pool_op.PoolOp.{PoolOp}
use Rattle.af_ops.specs.declared.pool_op.PoolOp.TheVariants as pool_op
use Rattle.af_ops.specs.declared.variable_op.VariableOp.{VariableOp}
use Rattle.af_ops.specs.declared.variable_op.VariableOp.TheVariants as variable_op
use Rattle.af_ops.specs.Effects.{Effect, effect_of}
use Rattle.af_ops.specs.PoolOps as pools
use Rattle.af_ops.specs.Rows.{occupied_by, open_beside}
use Rattle.af_ops.specs.VariableOps as variables

-- an operation, done for some reader at some moment, leads from one state to another
abbrev pub Leads : Op → StateRows → StateRows → Type 0
Leads asked old new =
    (reads : Readable) × (now : ℕ) × (effect : Effect) × (effect_of reads old asked now ≡ Ok effect) × (effect.next ≡ Some new)

-- the default pool, and each pool that a task of a DAG names, is there after every operation, if it was before
abbrev pub NeededPoolsStay : Type 0
NeededPoolsStay =
    (asked : Op) (old new : StateRows) → Leads asked old new → NeededStay pools_of_row old.dags old.pools new.pools

-- each other pool is as it was, and so is all else
pub record TouchesOnePool (name : List ℕ) (old new : StateRows) : Type 0 where
  pub others : (other : List ℕ) → pointwise nat_eq name other ≡ false → pool_of new.pools other ≡ pool_of old.pools other
  pub rest : new ≡ record old { pools = new.pools }

abbrev pub PoolChangesTouchOnePool : Type 0
PoolChangesTouchOnePool =
    (it : PoolOp) (old new : StateRows) → Leads (op.Pool it) old new → TouchesOnePool (pools.name_of it) old new

-- a pool that was added is there, one that was given other slots has them, and one that was deleted is not there
abbrev pub PoolsAreAsWritten : Type 0
PoolsAreAsWritten =
    (old new : StateRows)
    → ((pool : Pool) → Leads (op.Pool (pool_op.Add (Ok pool))) old new → pool_of new.pools pool.name ≡ Some pool)
    × ((name : List ℕ) (slots : ℕ) → Leads (op.Pool (pool_op.Change name (Ok slots))) old new → slots_of new.pools name ≡ slots)
    × ((name : List ℕ) → Leads (op.Pool (pool_op.Delete name)) old new → pool_of new.pools name ≡ None)

-- each other variable is as it was, and so is all else
pub record TouchesOneVariable (key : List ℕ) (old new : StateRows) : Type 0 where
  pub others : (other : List ℕ) → pointwise nat_eq key other ≡ false → variable_of new.variables other ≡ variable_of old.variables other
  pub rest : new ≡ record old { variables = new.variables }

abbrev pub VariableChangesTouchOneVariable : Type 0
VariableChangesTouchOneVariable =
    (it : VariableOp) (old new : StateRows) → Leads (op.Variable it) old new → TouchesOneVariable (variables.key_of it) old new

-- a variable that was added is there, one that was written holds that text, and one that was deleted is not there
abbrev pub VariablesAreAsWritten : Type 0
VariablesAreAsWritten =
    (old new : StateRows)
    → ((variable : Variable) → Leads (op.Variable (variable_op.Add (Ok variable))) old new → variable_of new.variables variable.key ≡ Some variable)
    × ((key value : List ℕ) → Leads (op.Variable (variable_op.Change key (Ok value))) old new → variable_of new.variables key ≡ Some record { key = key; value = value })
    × ((key : List ℕ) → Leads (op.Variable (variable_op.Delete key)) old new → variable_of new.variables key ≡ None)

-- the slots that queued and running instances hold of a pool
abbrev pub occupied_in_all : StateRows → List ℕ → ℕ
occupied_in_all state name = occupied_slots state.pools name (map occupant_of (placed_in state.dags state.runs))

-- The slots that are told occupied of a pool are those that its instances hold, where these are fewer than a number of 64 bits
-- tells; with those that are told open they are all of the pool's, or those occupied where these are more.
abbrev pub PoolsAreToldWhole : Type 0
PoolsAreToldWhole =
    (state : StateRows) (pool : Pool)
    → (occupied_in_all state pool.name < 2 ^ 64 → occupied_by (held_of state pool.name) ≡ occupied_in_all state pool.name)
    × (occupied_by (held_of state pool.name) + open_beside pool.slots (held_of state pool.name) ≡ max pool.slots (occupied_by (held_of state pool.name)))

-- whether an instance is in this state, and its task names the pool of this name
abbrev pub is_of_pool_in : TaskState → List ℕ → Placed → Bool
is_of_pool_in task_state name placed = same_name placed.task.pool name && same_state placed.instance.state task_state

-- the slots of the instances of a pool that are in this state, of all runs
abbrev pub slots_of_instances : TaskState → StateRows → List ℕ → ℕ
slots_of_instances task_state state name =
    sum_by (λ placed. placed.task.pool_slots) (filter (is_of_pool_in task_state name) (placed_in state.dags state.runs))

-- The slots that are told queued of a pool are those of its queued instances, and those told running of its running ones, where these
-- are fewer than a number of 64 bits tells; together these instances hold what is occupied.
abbrev pub PoolsAreToldByState : Type 0
PoolsAreToldByState =
    (state : StateRows) (pool : Pool) → has_pool state.pools pool.name ≡ true
    → (slots_of_instances Queued state pool.name < 2 ^ 64 → (held_of state pool.name).queued ≡ slots_of_instances Queued state pool.name)
    × ((slots_of_instances Running state pool.name < 2 ^ 64 → (held_of state pool.name).running ≡ slots_of_instances Running state pool.name)
    × (slots_of_instances Queued state pool.name + slots_of_instances Running state pool.name ≡ occupied_in_all state pool.name))

-- the pools of a page stand in byte order of their names, and the variables in that of their keys; none stands twice
abbrev pub RowsGoByName : Type 0
RowsGoByName =
    (window : Cut) (state : StateRows) → AreInOrder name_of state.pools → AreInOrder key_of state.variables
    → AreInOrder name_of (cut window state.pools) × AreInOrder key_of (cut window state.variables)
