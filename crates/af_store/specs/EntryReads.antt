-- What a line that tells an entry is read as: only the line that tells it (this product's own rule).
use Rattle.std.specs.Prelude.{ℕ, List, [], ◌∷◌, codes, if◌then◌else◌, ok_or, Option, Some, None, option_and_then, Result, Ok, Err}
use Rattle.std.specs.List.{find}
use Rattle.serde_json.specs.Data.{Data}
use Rattle.af_names.specs.Names.{account_name_grammar, id_grammar, row_name_grammar, run_id_grammar}
use Rattle.af_base.specs.Readings.{◌>>=◌}
use Rattle.af_runs.specs.Marks.{mark_of}
use Rattle.af_runs.specs.Texts.{state_of}
use Rattle.af_runs.specs.declared.mark.Mark.{Mark}
use Rattle.af_sched.specs.Outcomes.{outcome_of}
use Rattle.af_sched.specs.declared.claim.Claim.{Claim}
use Rattle.af_sched.specs.declared.outcome.Outcome.{Outcome}
use Rattle.af_ops.specs.declared.clear.Clear.{Clear}
use Rattle.af_ops.specs.declared.op.Op.{Op}
use Rattle.af_ops.specs.declared.op.Op.TheVariants as op
use Rattle.af_ops.specs.declared.pool_op.PoolOp.TheVariants as pool
use Rattle.af_ops.specs.declared.variable_op.VariableOp.TheVariants as variable
use Rattle.af_audit.specs.declared.act.Act.TheVariants as act
use Rattle.af_audit.specs.declared.actor.Actor.TheVariants as actor
use Rattle.af_audit.specs.declared.entry.Entry.{Entry}
use Rattle.af_store.specs.Bodies.{same_text}
use Rattle.af_store.specs.Members.{count_value, instant_value, list_value, name_value, optional_in, required_in, row_in, short_value, text_value, truth_value}
use Rattle.af_store.specs.EntryLines.{entry_body}
use Rattle.af_store.specs.declared.deed.Deed.{Deed}
use Rattle.af_store.specs.declared.event.Event.{Event}
use Rattle.af_store.specs.declared.event.Event.TheVariants as event
use Rattle.af_store.specs.declared.op_event.OpEvent.{OpEvent}
use Rattle.af_store.specs.declared.op_event.OpEvent.TheVariants as change
use Rattle.af_store.specs.declared.line_fault.LineFault.{LineFault}
use Rattle.af_store.specs.declared.line_fault.LineFault.TheVariants.{NotALine}

-- ---- events

-- of an operation, as event logs have them
abbrev pub op_text : OpEvent → List ℕ
op_text change.PauseDag = codes "patch_dag"
op_text change.TriggerRun = codes "trigger_dag_run"
op_text change.MarkRun = codes "patch_dag_run"
op_text change.DeleteRun = codes "delete_dag_run"
op_text change.ClearRun = codes "clear_dag_run"
op_text change.ClearInstances = codes "clear_task_instances"
op_text change.BackfillDag = codes "backfill"
op_text change.AddPool = codes "post_pool"
op_text change.ChangePool = codes "patch_pool"
op_text change.DeletePool = codes "delete_pool"
op_text change.AddVariable = codes "post_variable"
op_text change.ChangeVariable = codes "patch_variable"
op_text change.DeleteVariable = codes "delete_variable"

abbrev pub event_text : Event → List ℕ
event_text (event.Op it) = op_text it
event_text event.Tick = codes "tick"
event_text event.Claim = codes "claim"
event_text event.Report = codes "report"

abbrev pub op_events : List OpEvent
op_events =
    change.PauseDag ∷ change.TriggerRun ∷ change.MarkRun ∷ change.DeleteRun ∷ change.ClearRun ∷ change.ClearInstances ∷ change.BackfillDag
    ∷ change.AddPool ∷ change.ChangePool ∷ change.DeletePool ∷ change.AddVariable ∷ change.ChangeVariable ∷ change.DeleteVariable ∷ []

-- the operation whose event this is
abbrev pub op_in : List ℕ → Option OpEvent
op_in text = find (λ it. same_text (op_text it) text) op_events

abbrev pub others : List Event
others = event.Tick ∷ event.Claim ∷ event.Report ∷ []

abbrev pub other_in : List ℕ → Result Event LineFault
other_in text = ok_or (find (λ it. same_text (event_text it) text) others) NotALine

abbrev pub op_or_other : Option OpEvent → List ℕ → Result Event LineFault
op_or_other (Some it) text = Ok (event.Op it)
op_or_other None text = other_in text

-- the event of this text
abbrev pub event_in : List ℕ → Result Event LineFault
event_in text = op_or_other (op_in text) text

-- ---- kinds of value

abbrev pub mark_in : List ℕ → Result Mark LineFault
mark_in text = ok_or (option_and_then mark_of (state_of text)) NotALine

abbrev pub mark_value : Data → Result Mark LineFault
mark_value value = text_value value >>= mark_in

abbrev pub outcome_in : List ℕ → Result Outcome LineFault
outcome_in text = ok_or (outcome_of text) NotALine

abbrev pub outcome_value : Data → Result Outcome LineFault
outcome_value value = text_value value >>= outcome_in

abbrev pub dag_id_in : Data → Result (List ℕ) LineFault
dag_id_in row = required_in (name_value id_grammar) (codes "dag_id") row

abbrev pub run_id_in : Data → Result (List ℕ) LineFault
run_id_in row = required_in (name_value run_id_grammar) (codes "dag_run_id") row

abbrev pub row_name_in : List ℕ → Data → Result (List ℕ) LineFault
row_name_in name row = required_in (name_value row_name_grammar) name row

-- ---- operations

abbrev pub pause_read : Data → Result Op LineFault
pause_read row = do
  dag_id ← dag_id_in row
  is_paused ← required_in truth_value (codes "is_paused") row
  Ok (op.PauseDag dag_id (Ok is_paused))

abbrev pub trigger_read : Data → Result Op LineFault
trigger_read row = do
  dag_id ← dag_id_in row
  run_id ← optional_in (name_value run_id_grammar) (codes "dag_run_id") row
  date ← optional_in instant_value (codes "logical_date") row
  Ok (op.TriggerRun dag_id (Ok (record { dag_run_id = run_id; logical_date = date })))

abbrev pub mark_read : Data → Result Op LineFault
mark_read row = do
  dag_id ← dag_id_in row
  run_id ← run_id_in row
  mark ← required_in mark_value (codes "state") row
  Ok (op.MarkRun dag_id run_id (Ok mark))

abbrev pub delete_read : Data → Result Op LineFault
delete_read row = do
  dag_id ← dag_id_in row
  run_id ← run_id_in row
  Ok (op.DeleteRun dag_id run_id)

abbrev pub clear_run_read : Data → Result Op LineFault
clear_run_read row = do
  dag_id ← dag_id_in row
  run_id ← run_id_in row
  dry_run ← required_in truth_value (codes "dry_run") row
  Ok (op.ClearRun dag_id run_id (Ok dry_run))

-- which instances are to be cleared
abbrev pub clear_read : Data → Result Clear LineFault
clear_read row = do
  dry_run ← required_in truth_value (codes "dry_run") row
  only_failed ← required_in truth_value (codes "only_failed") row
  task_ids ← optional_in (list_value (name_value id_grammar)) (codes "task_ids") row
  run_id ← optional_in (name_value run_id_grammar) (codes "dag_run_id") row
  first ← optional_in instant_value (codes "start_date") row
  last ← optional_in instant_value (codes "end_date") row
  Ok (record {
    dry_run = dry_run;
    only_failed = only_failed;
    task_ids = task_ids;
    dag_run_id = run_id;
    start_date = first;
    end_date = last;
  })

abbrev pub clear_instances_read : Data → Result Op LineFault
clear_instances_read row = do
  dag_id ← dag_id_in row
  asked ← clear_read row
  Ok (op.ClearInstances dag_id (Ok asked))

abbrev pub backfill_read : Data → Result Op LineFault
backfill_read row = do
  dag_id ← dag_id_in row
  first ← required_in instant_value (codes "start_date") row
  last ← required_in instant_value (codes "end_date") row
  Ok (op.BackfillDag dag_id (Ok (record { start_date = first; end_date = last })))

abbrev pub pool_added_read : Data → Result Op LineFault
pool_added_read row = do
  name ← row_name_in (codes "name") row
  slots ← required_in short_value (codes "slots") row
  Ok (op.Pool (pool.Add (Ok (record { name = name; slots = slots }))))

abbrev pub pool_changed_read : Data → Result Op LineFault
pool_changed_read row = do
  name ← row_name_in (codes "name") row
  slots ← required_in short_value (codes "slots") row
  Ok (op.Pool (pool.Change name (Ok slots)))

abbrev pub pool_deleted_read : Data → Result Op LineFault
pool_deleted_read row = row_name_in (codes "name") row >>= (λ name. Ok (op.Pool (pool.Delete name)))

abbrev pub variable_added_read : Data → Result Op LineFault
variable_added_read row = do
  key ← row_name_in (codes "key") row
  value ← required_in text_value (codes "value") row
  Ok (op.Variable (variable.Add (Ok (record { key = key; value = value }))))

abbrev pub variable_changed_read : Data → Result Op LineFault
variable_changed_read row = do
  key ← row_name_in (codes "key") row
  value ← required_in text_value (codes "value") row
  Ok (op.Variable (variable.Change key (Ok value)))

abbrev pub variable_deleted_read : Data → Result Op LineFault
variable_deleted_read row = row_name_in (codes "key") row >>= (λ key. Ok (op.Variable (variable.Delete key)))

-- the operation of an event
abbrev pub op_read : OpEvent → Data → Result Op LineFault
op_read change.PauseDag row = pause_read row
op_read change.TriggerRun row = trigger_read row
op_read change.MarkRun row = mark_read row
op_read change.DeleteRun row = delete_read row
op_read change.ClearRun row = clear_run_read row
op_read change.ClearInstances row = clear_instances_read row
op_read change.BackfillDag row = backfill_read row
op_read change.AddPool row = pool_added_read row
op_read change.ChangePool row = pool_changed_read row
op_read change.DeletePool row = pool_deleted_read row
op_read change.AddVariable row = variable_added_read row
op_read change.ChangeVariable row = variable_changed_read row
op_read change.DeleteVariable row = variable_deleted_read row

-- ---- acts

-- the name of a user, as in `{"user":..}`
abbrev pub user_value : Data → Result (List ℕ) LineFault
user_value value = required_in (name_value account_name_grammar) (codes "user") value

-- an operation, and the user whom the members name
abbrev pub by_user : OpEvent → Data → Result Deed LineFault
by_user it row = do
  user ← required_in user_value (codes "by") row
  asked ← op_read it row
  Ok (record { actor = actor.User user; act = act.Did asked })

abbrev pub claim_read : Data → Result Claim LineFault
claim_read row = do
  run_number ← required_in count_value (codes "run_number") row
  dag_id ← dag_id_in row
  run_id ← run_id_in row
  task_id ← required_in (name_value id_grammar) (codes "task_id") row
  try_number ← required_in short_value (codes "try_number") row
  Ok (record { run_number = run_number; dag_id = dag_id; run_id = run_id; task_id = task_id; try_number = try_number })

abbrev pub claimed_read : Data → Result Deed LineFault
claimed_read row = claim_read row >>= (λ claimed. Ok (record { actor = actor.Executor; act = act.Claim claimed }))

abbrev pub reported_read : Data → Result Deed LineFault
reported_read row = do
  claimed ← claim_read row
  outcome ← required_in outcome_value (codes "outcome") row
  Ok (record { actor = actor.Executor; act = act.Report claimed outcome })

abbrev pub deed_by : Event → Data → Result Deed LineFault
deed_by (event.Op it) row = by_user it row
deed_by event.Tick row = Ok (record { actor = actor.Scheduler; act = act.Tick })
deed_by event.Claim row = claimed_read row
deed_by event.Report row = reported_read row

abbrev pub deed_read : Data → Result Deed LineFault
deed_read row = do
  text ← required_in text_value (codes "event") row
  it ← event_in text
  deed_by it row

-- ---- entries

-- the entry that a body's members say
abbrev pub entry_in : Data → Result Entry LineFault
entry_in row = do
  seq ← required_in short_value (codes "event_log_id") row
  moment ← required_in instant_value (codes "at") row
  version ← required_in short_value (codes "version") row
  deed ← deed_read row
  Ok (record { seq = seq; moment = moment; actor = deed.actor; version = version; act = deed.act })

abbrev pub if_same : List ℕ → Entry → List ℕ → Result Entry LineFault
if_same body entry told = if same_text told body then Ok entry else Err NotALine

-- an entry, if this is just the text by which it is told
abbrev pub if_told_as : List ℕ → Entry → Result Entry LineFault
if_told_as body entry = entry_body entry >>= if_same body entry

abbrev pub entry_of : List ℕ → Result Entry LineFault
entry_of body = do
  row ← row_in body
  entry ← entry_in row
  if_told_as body entry
