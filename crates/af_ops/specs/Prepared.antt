-- An operation that is worked out and not yet done.
use Rattle.std.specs.Prelude.{◌≡◌, ◌<◌, ◌≤◌, ◌↔◌, ◌⊎◌, ℕ, List, false, length, Option, None, Result, Ok, Err, IsOk, ⊤}
use Rattle.af_pool.specs.Pools as pools
use Rattle.af_pool.specs.Pools.{remove_fault, set_fault}
use Rattle.af_runs.specs.Runs.{add_fault}
use Rattle.af_runs.specs.declared.new_run.NewRun.{NewRun}
use Rattle.af_sched.specs.Additions.{IsWholeNew}
use Rattle.af_sched.specs.Plan.{Fits, PlanRows}
use Rattle.af_sched.specs.State.{StateRows, StateWithRoom, pools_of_row}
use Rattle.af_vars.specs.Variables as variables
use Rattle.af_vars.specs.Variables.{change_fault}
use Rattle.af_ops.specs.declared.edit.Edit.{Edit}
use Rattle.af_ops.specs.declared.edit.Edit.TheVariants as edit
use Rattle.af_ops.specs.Edits.{edited, is_edit, next_by}
use Rattle.af_ops.specs.Effects.{Effect}

-- the text of its reply, if it has one, and its edit
pub record Preparation : Type 0 where
  pub reply : Option (List ℕ)
  pub edit : Edit

-- a reply, with no edit
abbrev pub told_alone : Option (List ℕ) → Preparation
told_alone reply = record { reply = reply; edit = edit.Nothing }

-- its effect on a state
abbrev pub done_on : StateRows → Preparation → Effect
done_on state prepared = record { reply = prepared.reply; next = next_by prepared.edit state }

-- a run may be added: there is room for it, it has an instance for each task of its DAG, and neither its id nor its date is taken
pub record CanAddRun (state : StateWithRoom) (new : NewRun) : Type 0 where
  pub room : 0 < state.spare_runs
  pub whole : IsWholeNew state.rows new
  pub free : add_fault state.rows.runs state.rows.next_run new.dag_id new.run_id new.logical_date ≡ None

-- the runs of a plan may be added: there is room for them, and the plan may be done
pub record CanAddRuns (state : StateWithRoom) (plan : PlanRows) : Type 0 where
  pub room : length plan.added ≤ state.spare_runs
  pub fits : Fits plan state.rows

-- a pool of this name with these slots may be added: there is room for it, and no fault
pub record CanAddPool (state : StateWithRoom) (name : List ℕ) (slots : ℕ) : Type 0 where
  pub room : 0 < state.spare_pools
  pub free : pools.add_fault state.rows.pools name slots ≡ None

-- a variable of this key may be added: there is room for it, and no fault
pub record CanAddVariable (state : StateWithRoom) (key : List ℕ) : Type 0 where
  pub room : 0 < state.spare_variables
  pub free : variables.add_fault state.rows.variables key ≡ None

-- the edit takes no memory
abbrev pub CanDo : StateWithRoom → Edit → Type 0
CanDo state edit.Nothing = ⊤
CanDo state (edit.DagPaused dag_id is_paused) = ⊤
CanDo state (edit.RunAdded new) = CanAddRun state new
CanDo state (edit.RunMarked number mark at) = ⊤
CanDo state (edit.InstancesCleared filter selection) = ⊤
CanDo state (edit.RunRemoved number) = ⊤
CanDo state (edit.RunsPlanned plan) = CanAddRuns state plan
CanDo state (edit.PoolAdded name slots) = CanAddPool state name slots
CanDo state (edit.PoolSet name slots) = set_fault state.rows.pools name slots ≡ None
CanDo state (edit.PoolRemoved name) = remove_fault pools_of_row state.rows.dags state.rows.pools name ≡ None
CanDo state (edit.VariableAdded variable) = CanAddVariable state variable.key
CanDo state (edit.VariableSet key value) = change_fault state.rows.variables key ≡ None
CanDo state (edit.VariableRemoved key) = change_fault state.rows.variables key ≡ None

-- the edit changes the state exactly where there is one
abbrev pub IsExact : StateRows → Edit → Type 0
IsExact state it = (is_edit it ≡ false) ↔ (edited it state ≡ state)

-- what is done where memory suffices, or out of memory in place of what would be done, never of another fault
abbrev pub MemoryLast : {X E : Type 0} → E → Result X E → Result X E → Type 0
MemoryLast memory expected (Ok x) = expected ≡ Ok x
MemoryLast memory expected (Err fault) = (expected ≡ Err fault) ⊎ (IsOk expected × (fault ≡ memory))
