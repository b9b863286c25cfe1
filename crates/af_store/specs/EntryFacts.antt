-- What holds of entries, from the types of what they hold: names are names, numbers fit, instants are within their range.
use Rattle.std.specs.Prelude.{ℕ, ◌<◌, ◌≤◌, ◌^◌, Result, Ok, Err, ⊤}
use Rattle.af_names.specs.Instants.{last_micros}
use Rattle.af_names.specs.Names.{account_name_grammar, id_grammar, row_name_grammar, run_id_grammar}
use Rattle.af_pool.specs.declared.pool.Pool.{Pool}
use Rattle.af_sched.specs.declared.claim.Claim.{Claim}
use Rattle.af_vars.specs.declared.variable.Variable.{Variable}
use Rattle.af_ops.specs.declared.backfill.Backfill.{Backfill}
use Rattle.af_ops.specs.declared.body_fault.BodyFault.{BodyFault}
use Rattle.af_ops.specs.declared.clear.Clear.{Clear}
use Rattle.af_ops.specs.declared.op.Op.{Op}
use Rattle.af_ops.specs.declared.op.Op.TheVariants as op
use Rattle.af_ops.specs.declared.pool_op.PoolOp.{PoolOp}
use Rattle.af_ops.specs.declared.pool_op.PoolOp.TheVariants as pool
use Rattle.af_ops.specs.declared.trigger.Trigger.{Trigger}
use Rattle.af_ops.specs.declared.variable_op.VariableOp.{VariableOp}
use Rattle.af_ops.specs.declared.variable_op.VariableOp.TheVariants as variable
use Rattle.af_audit.specs.declared.act.Act.{Act}
use Rattle.af_audit.specs.declared.act.Act.TheVariants as act
use Rattle.af_audit.specs.declared.actor.Actor.{Actor}
use Rattle.af_audit.specs.declared.actor.Actor.TheVariants as actor
use Rattle.af_audit.specs.declared.entry.Entry.{Entry}
use Rattle.af_store.specs.Names.{AreNames, IfThere, IsName}

-- it fits 32 bits
abbrev pub IsShort : ℕ → Type 0
IsShort count = count < 2 ^ 32

abbrev pub IsInstant : ℕ → Type 0
IsInstant micros = micros ≤ last_micros

-- what holds of what was read of a body, if it was
abbrev pub IfRead : {X : Type 0} → (X → Type 0) → Result X BodyFault → Type 0
IfRead holds (Ok input) = holds input
IfRead holds (Err fault) = ⊤

pub record IsTrigger (asked : Trigger) : Type 0 where
  pub run : IfThere (IsName run_id_grammar) asked.dag_run_id
  pub date : IfThere IsInstant asked.logical_date

pub record IsClear (asked : Clear) : Type 0 where
  pub tasks : IfThere (AreNames id_grammar) asked.task_ids
  pub run : IfThere (IsName run_id_grammar) asked.dag_run_id
  pub first : IfThere IsInstant asked.start_date
  pub last : IfThere IsInstant asked.end_date

pub record IsBackfill (asked : Backfill) : Type 0 where
  pub first : IsInstant asked.start_date
  pub last : IsInstant asked.end_date

pub record IsPool (added : Pool) : Type 0 where
  pub name : IsName row_name_grammar added.name
  pub slots : IsShort added.slots

abbrev pub IsPoolOp : PoolOp → Type 0
IsPoolOp (pool.List asked) = ⊤
IsPoolOp (pool.Add input) = IfRead IsPool input
IsPoolOp (pool.Get name) = ⊤
IsPoolOp (pool.Change name input) = IsName row_name_grammar name × IfRead IsShort input
IsPoolOp (pool.Delete name) = IsName row_name_grammar name

abbrev pub IsVariable : Variable → Type 0
IsVariable added = IsName row_name_grammar added.key

abbrev pub IsVariableOp : VariableOp → Type 0
IsVariableOp (variable.List asked) = ⊤
IsVariableOp (variable.Add input) = IfRead IsVariable input
IsVariableOp (variable.Get key) = ⊤
IsVariableOp (variable.Change key input) = IsName row_name_grammar key
IsVariableOp (variable.Delete key) = IsName row_name_grammar key

abbrev pub IsOp : Op → Type 0
IsOp op.Version = ⊤
IsOp (op.ListDags asked) = ⊤
IsOp (op.GetDag dag_id) = ⊤
IsOp (op.PauseDag dag_id input) = IsName id_grammar dag_id
IsOp (op.ListTasks dag_id) = ⊤
IsOp (op.ListRuns dag asked) = ⊤
IsOp (op.TriggerRun dag_id input) = IsName id_grammar dag_id × IfRead IsTrigger input
IsOp (op.GetRun dag_id run_id) = ⊤
IsOp (op.MarkRun dag_id run_id input) = IsName id_grammar dag_id × IsName run_id_grammar run_id
IsOp (op.DeleteRun dag_id run_id) = IsName id_grammar dag_id × IsName run_id_grammar run_id
IsOp (op.ClearRun dag_id run_id input) = IsName id_grammar dag_id × IsName run_id_grammar run_id
IsOp (op.ListInstances dag_id run_id asked) = ⊤
IsOp (op.GetInstance dag_id run_id task_id) = ⊤
IsOp (op.ClearInstances dag_id input) = IsName id_grammar dag_id × IfRead IsClear input
IsOp (op.BackfillDag dag_id input) = IsName id_grammar dag_id × IfRead IsBackfill input
IsOp (op.Pool it) = IsPoolOp it
IsOp (op.Variable it) = IsVariableOp it

pub record IsClaim (claimed : Claim) : Type 0 where
  pub run_number : claimed.run_number < 2 ^ 64
  pub dag : IsName id_grammar claimed.dag_id
  pub run : IsName run_id_grammar claimed.run_id
  pub task : IsName id_grammar claimed.task_id
  pub try_number : IsShort claimed.try_number

abbrev pub IsAct : Act → Type 0
IsAct (act.Did asked) = IsOp asked
IsAct act.Tick = ⊤
IsAct (act.Claim claimed) = IsClaim claimed
IsAct (act.Report claimed outcome) = IsClaim claimed

abbrev pub IsActor : Actor → Type 0
IsActor (actor.User user) = IsName account_name_grammar user
IsActor actor.Scheduler = ⊤
IsActor actor.Executor = ⊤

pub record IsEntry (entry : Entry) : Type 0 where
  pub seq : IsShort entry.seq
  pub moment : IsInstant entry.moment
  pub actor : IsActor entry.actor
  pub version : IsShort entry.version
  pub act : IsAct entry.act
