-- Lines that tell what was done to the state: when, by whom, under which version of the policy, and what, by event, names and input. Events are
-- named as event logs name them, members as the API names them (Airflow 2, "Stable REST API"; instants are told in microseconds since
-- 1970-01-01T00:00:00Z, and what an executor is told of, by this product's own rule).
use Rattle.std.specs.Prelude.{ℕ, List, [], ◌∷◌, ◌++◌, codes, Bool, if◌then◌else◌, Result, Ok, Err}
use Rattle.serde_json.specs.Data.{Data, boolean, number, unsigned, string}
use Rattle.af_base.specs.Readings.{◌>>=◌}
use Rattle.af_runs.specs.Marks.{marked_state}
use Rattle.af_runs.specs.Texts.{state_text}
use Rattle.af_sched.specs.Outcomes.{outcome_text}
use Rattle.af_sched.specs.declared.claim.Claim.{Claim}
use Rattle.af_ops.specs.declared.backfill.Backfill.{Backfill}
use Rattle.af_ops.specs.declared.body_fault.BodyFault.{BodyFault}
use Rattle.af_ops.specs.declared.clear.Clear.{Clear}
use Rattle.af_ops.specs.declared.op.Op.{Op}
use Rattle.af_ops.specs.declared.op.Op.TheVariants as op
use Rattle.af_ops.specs.declared.pool_op.PoolOp.{PoolOp}
use Rattle.af_ops.specs.declared.pool_op.PoolOp.TheVariants as pool
use Rattle.af_ops.specs.declared.trigger.Trigger.{Trigger}
use Rattle.af_ops.specs.declared.variable_op.VariableOp.{VariableOp}
use Rattle.af_ops.specs.declared.variable_op.VariableOp.TheVariants as variable
use Rattle.af_audit.specs.Acts.{is_by}
use Rattle.af_audit.specs.Logs.{event_of}
use Rattle.af_audit.specs.declared.act.Act.{Act}
use Rattle.af_audit.specs.declared.act.Act.TheVariants as act
use Rattle.af_audit.specs.declared.actor.Actor.{Actor}
use Rattle.af_audit.specs.declared.actor.Actor.TheVariants as actor
use Rattle.af_audit.specs.declared.entry.Entry.{Entry}
use Rattle.af_store.specs.Bodies.{Field, body_of, list_of, object_of, or_null}
use Rattle.af_store.specs.declared.line_fault.LineFault.{LineFault}
use Rattle.af_store.specs.declared.line_fault.LineFault.TheVariants.{NotALine}

-- the members of an act: those before the name of its event in byte order, and those after it
pub record Parts : Type 0 where
  pub before : List Field
  pub after : List Field

abbrev pub count_told : ℕ → Data
count_told count = number (unsigned count)

abbrev pub ids_told : List (List ℕ) → Data
ids_told ids = list_of string ids

-- ---- operations

-- what was read of a body; an operation whose body is faulty, or was not read, changes nothing
abbrev pub input_parts : {X : Type 0} → (X → Parts) → Result X BodyFault → Result Parts LineFault
input_parts parts (Ok input) = Ok (parts input)
input_parts parts (Err fault) = Err NotALine

abbrev pub pause_parts : List ℕ → Bool → Parts
pause_parts dag_id is_paused = record { before = (codes "dag_id", string dag_id) ∷ []; after = (codes "is_paused", boolean is_paused) ∷ [] }

abbrev pub trigger_parts : List ℕ → Trigger → Parts
trigger_parts dag_id asked = record {
  before = (codes "dag_id", string dag_id) ∷ (codes "dag_run_id", or_null string asked.dag_run_id) ∷ [];
  after = (codes "logical_date", or_null count_told asked.logical_date) ∷ [];
}

abbrev pub run_parts : List ℕ → List ℕ → List Field → List Field → Parts
run_parts dag_id run_id before after =
    record { before = (codes "dag_id", string dag_id) ∷ (codes "dag_run_id", string run_id) ∷ before; after = after }

abbrev pub clear_parts : List ℕ → Clear → Parts
clear_parts dag_id asked = record {
  before =
      (codes "dag_id", string dag_id) ∷ (codes "dag_run_id", or_null string asked.dag_run_id) ∷ (codes "dry_run", boolean asked.dry_run)
      ∷ (codes "end_date", or_null count_told asked.end_date) ∷ [];
  after =
      (codes "only_failed", boolean asked.only_failed) ∷ (codes "start_date", or_null count_told asked.start_date)
      ∷ (codes "task_ids", or_null ids_told asked.task_ids) ∷ [];
}

abbrev pub backfill_parts : List ℕ → Backfill → Parts
backfill_parts dag_id asked = record {
  before = (codes "dag_id", string dag_id) ∷ (codes "end_date", count_told asked.end_date) ∷ [];
  after = (codes "start_date", count_told asked.start_date) ∷ [];
}

abbrev pub after_parts : List Field → Parts
after_parts after = record { before = []; after = after }

abbrev pub slots_parts : List ℕ → ℕ → Parts
slots_parts name slots = after_parts ((codes "name", string name) ∷ (codes "slots", count_told slots) ∷ [])

abbrev pub pool_parts : PoolOp → Result Parts LineFault
pool_parts (pool.List asked) = Err NotALine
pool_parts (pool.Add input) = input_parts (λ added. slots_parts added.name added.slots) input
pool_parts (pool.Get name) = Err NotALine
pool_parts (pool.Change name input) = input_parts (slots_parts name) input
pool_parts (pool.Delete name) = Ok (after_parts ((codes "name", string name) ∷ []))

abbrev pub value_parts : List ℕ → List ℕ → Parts
value_parts key value = after_parts ((codes "key", string key) ∷ (codes "value", string value) ∷ [])

abbrev pub variable_parts : VariableOp → Result Parts LineFault
variable_parts (variable.List asked) = Err NotALine
variable_parts (variable.Add input) = input_parts (λ added. value_parts added.key added.value) input
variable_parts (variable.Get key) = Err NotALine
variable_parts (variable.Change key input) = input_parts (value_parts key) input
variable_parts (variable.Delete key) = Ok (after_parts ((codes "key", string key) ∷ []))

-- an operation that changes nothing has no line
abbrev pub op_parts : Op → Result Parts LineFault
op_parts op.Version = Err NotALine
op_parts (op.ListDags asked) = Err NotALine
op_parts (op.GetDag dag_id) = Err NotALine
op_parts (op.PauseDag dag_id input) = input_parts (pause_parts dag_id) input
op_parts (op.ListTasks dag_id) = Err NotALine
op_parts (op.ListRuns dag asked) = Err NotALine
op_parts (op.TriggerRun dag_id input) = input_parts (trigger_parts dag_id) input
op_parts (op.GetRun dag_id run_id) = Err NotALine
op_parts (op.MarkRun dag_id run_id input) =
    input_parts (λ mark. run_parts dag_id run_id [] ((codes "state", string (state_text (marked_state mark))) ∷ [])) input
op_parts (op.DeleteRun dag_id run_id) = Ok (run_parts dag_id run_id [] [])
op_parts (op.ClearRun dag_id run_id input) =
    input_parts (λ dry_run. run_parts dag_id run_id ((codes "dry_run", boolean dry_run) ∷ []) []) input
op_parts (op.ListInstances dag_id run_id asked) = Err NotALine
op_parts (op.GetInstance dag_id run_id task_id) = Err NotALine
op_parts (op.ClearInstances dag_id input) = input_parts (clear_parts dag_id) input
op_parts (op.BackfillDag dag_id input) = input_parts (backfill_parts dag_id) input
op_parts (op.Pool it) = pool_parts it
op_parts (op.Variable it) = variable_parts it

-- ---- acts

-- the instance that is claimed or reported, after what else is told of it
abbrev pub instance_parts : Claim → List Field → Parts
instance_parts claimed told =
    run_parts claimed.dag_id claimed.run_id [] (told
    ++ (codes "run_number", count_told claimed.run_number) ∷ (codes "task_id", string claimed.task_id)
    ∷ (codes "try_number", count_told claimed.try_number) ∷ [])

abbrev pub act_parts : Act → Result Parts LineFault
act_parts (act.Did asked) = op_parts asked
act_parts act.Tick = Ok (after_parts [])
act_parts (act.Claim claimed) = Ok (instance_parts claimed [])
act_parts (act.Report claimed outcome) = Ok (instance_parts claimed ((codes "outcome", string (outcome_text outcome)) ∷ []))

-- ---- entries

-- `{"user":..}`
abbrev pub user_object : List ℕ → Data
user_object name = object_of ((codes "user", string name) ∷ [])

-- a user by name, since a user may be called `scheduler`; else who it is
abbrev pub actor_told : Actor → Data
actor_told (actor.User user) = user_object user
actor_told actor.Scheduler = string (codes "scheduler")
actor_told actor.Executor = string (codes "executor")

abbrev pub head_fields : Entry → List Field
head_fields entry = (codes "at", count_told entry.moment) ∷ (codes "by", actor_told entry.actor) ∷ []

abbrev pub event_fields : Entry → List Field
event_fields entry = (codes "event", string (event_of entry.act)) ∷ (codes "event_log_id", count_told entry.seq) ∷ []

abbrev pub version_fields : Entry → List Field
version_fields entry = (codes "version", count_told entry.version) ∷ []

-- the members of an entry, with those of its act in their places
abbrev pub entry_fields : Entry → Parts → List Field
entry_fields entry parts =
    head_fields entry ++ (parts.before ++ (event_fields entry ++ (parts.after ++ version_fields entry)))

-- the body that tells an entry by the members of its act
abbrev pub told_by : Entry → Result Parts LineFault → Result (List ℕ) LineFault
told_by entry parts = parts >>= (λ it. Ok (body_of (entry_fields entry it)))

-- the body of the line that tells an entry; none where its act is not its actor's, or is one that changes nothing
abbrev pub entry_body : Entry → Result (List ℕ) LineFault
entry_body entry = if is_by entry.actor entry.act then told_by entry (act_parts entry.act) else Err NotALine
