-- What a request's body holds: a JSON object whose members are read in a written order; the first that is absent though it has
-- to be there, or of a wrong kind or value, is told by its name (this product's own rule). Null counts as absent.
use Rattle.std.specs.Prelude.{ℕ, List, [], ◌∷◌, ◌++◌, Bool, true, false, is_some, if◌then◌else◌, Option, Some, None, option_and_then, nat_le, ok_or, unwrap_or, Result, Ok, Err, codes, ⊤}
use Rattle.std.specs.Option.{option_map_or}
use Rattle.std.specs.Result.{result_ok}
use Rattle.serde_json.specs.Data.{Data, Members, no_members, member}
use Rattle.serde_json.specs.Find.{as_bool, as_object, as_str}
use Rattle.af_base.specs.Members.{as_list}
use Rattle.af_base.specs.Parsed.{json_of}
use Rattle.af_base.specs.Readings.{◌>>=◌, member_of, optional, required, taking}
use Rattle.af_names.specs.Instants.{instant_of}
use Rattle.af_names.specs.Names.{id_grammar, named, run_id_grammar}
use Rattle.af_runs.specs.Marks.{mark_of}
use Rattle.af_runs.specs.Texts.{state_of}
use Rattle.af_runs.specs.declared.mark.Mark.{Mark}
use Rattle.af_ops.specs.declared.backfill.Backfill.{Backfill}
use Rattle.af_ops.specs.declared.body_fault.Member.{Member}
use Rattle.af_ops.specs.declared.body_fault.Member.TheVariants.{IsPaused, DagRunId, LogicalDate, ExecutionDate, Conf, State, DryRun, OnlyFailed, TaskIds, StartDate, EndDate, Name, Slots, Key, Value}
use Rattle.af_ops.specs.declared.body_fault.BodyFault.{BodyFault}
use Rattle.af_ops.specs.declared.body_fault.BodyFault.TheVariants.{BadBody, BadMember}
use Rattle.af_ops.specs.declared.clear.Clear.{Clear}
use Rattle.af_ops.specs.declared.trigger.Trigger.{Trigger}

abbrev pub name_of : Member → List ℕ
name_of IsPaused = codes "is_paused"
name_of DagRunId = codes "dag_run_id"
name_of LogicalDate = codes "logical_date"
name_of ExecutionDate = codes "execution_date"
name_of Conf = codes "conf"
name_of State = codes "state"
name_of DryRun = codes "dry_run"
name_of OnlyFailed = codes "only_failed"
name_of TaskIds = codes "task_ids"
name_of StartDate = codes "start_date"
name_of EndDate = codes "end_date"
name_of Name = codes "name"
name_of Slots = codes "slots"
name_of Key = codes "key"
name_of Value = codes "value"

abbrev pub object_or : Data → Result Data BodyFault
object_or value = if is_some (as_object value) then Ok value else Err BadBody

-- the object that a body is
abbrev pub body_in : List ℕ → Result Data BodyFault
body_in bytes = ok_or (json_of bytes) BadBody >>= object_or

abbrev pub required_in : {X : Type 0} → (Data → Option X) → Member → Data → Result X BodyFault
required_in read it body = required read (BadMember it) (member_of (name_of it) body)

abbrev pub optional_in : {X : Type 0} → (Data → Option X) → Member → Data → Result (Option X) BodyFault
optional_in read it body = optional read (BadMember it) (member_of (name_of it) body)

-- ---- kinds of value

-- the id of a run
abbrev pub run_id_of : Data → Option (List ℕ)
run_id_of value = option_and_then (λ text. result_ok (named run_id_grammar text)) (as_str value)

abbrev pub instant_in : Data → Option ℕ
instant_in value = option_and_then (λ text. result_ok (instant_of text)) (as_str value)

-- the mark that puts a run into the state of this text; a run is not marked running
abbrev pub mark_value : Data → Option Mark
mark_value value = option_and_then (λ text. option_and_then mark_of (state_of text)) (as_str value)

abbrev pub has_none : Members → Bool
has_none no_members = true
has_none (member name value rest) = false

-- an object without members
abbrev pub is_empty : Data → Bool
is_empty value = option_map_or has_none (as_object value) false

abbrev pub empty_object : Data → Option ⊤
empty_object value = if is_empty value then Some tt else None

-- one id of a task more
abbrev pub id_taken : List (List ℕ) → Data → Result (List (List ℕ)) BodyFault
id_taken ids value =
    ok_or (option_and_then (λ text. result_ok (named id_grammar text)) (as_str value)) (BadMember TaskIds)
    >>= (λ id. Ok (ids ++ id ∷ []))

-- the ids of tasks, where they are there: a list, each of whose items is one
abbrev pub ids_or : Option Data → Result (Option (List (List ℕ))) BodyFault
ids_or None = Ok None
ids_or (Some value) = do
  values ← ok_or (as_list value) (BadMember TaskIds)
  ids ← taking id_taken [] values
  Ok (Some ids)

abbrev pub task_ids_in : Data → Result (Option (List (List ℕ))) BodyFault
task_ids_in body = ids_or (member_of (codes "task_ids") body)

-- ---- bodies

-- a truth value that says whether a DAG is paused
abbrev pub pause_in : List ℕ → Result Bool BodyFault
pause_in bytes = do
  body ← body_in bytes
  required_in as_bool IsPaused body

-- the logical date of a run; `execution_date`, its older name, is read where it is absent (Airflow 2, "DAG Runs")
abbrev pub date_in : Data → Result (Option ℕ) BodyFault
date_in body =
    optional_in instant_in (if is_some (member_of (codes "logical_date") body) then LogicalDate else ExecutionDate) body

-- a run that is to be triggered; of `conf` the empty object alone is taken
abbrev pub trigger_in : List ℕ → Result Trigger BodyFault
trigger_in bytes = do
  body ← body_in bytes
  run_id ← optional_in run_id_of DagRunId body
  date ← date_in body
  conf ← optional_in empty_object Conf body
  Ok (record { dag_run_id = run_id; logical_date = date })

-- what a run is marked: success, failed or queued
abbrev pub mark_in : List ℕ → Result Mark BodyFault
mark_in bytes = do
  body ← body_in bytes
  required_in mark_value State body

-- whether a clear of a run is only to be told: it is, unless the body says that it is not
abbrev pub clear_run_in : List ℕ → Result Bool BodyFault
clear_run_in bytes = do
  body ← body_in bytes
  dry_run ← optional_in as_bool DryRun body
  Ok (unwrap_or dry_run true)

-- the members of a body that asks for a clear, once it says whether that is only to be told, and of failed instances alone
abbrev pub clear_by : Option Bool → Option Bool → Data → Result Clear BodyFault
clear_by dry_run only_failed body = do
  task_ids ← task_ids_in body
  run_id ← optional_in run_id_of DagRunId body
  first ← optional_in instant_in StartDate body
  last ← optional_in instant_in EndDate body
  Ok (record {
    dry_run = unwrap_or dry_run true;
    only_failed = unwrap_or only_failed true;
    task_ids = task_ids;
    dag_run_id = run_id;
    start_date = first;
    end_date = last;
  })

abbrev pub clear_of : Data → Result Clear BodyFault
clear_of body = do
  dry_run ← optional_in as_bool DryRun body
  only_failed ← optional_in as_bool OnlyFailed body
  clear_by dry_run only_failed body

-- which instances are cleared, and whether that is only to be told
abbrev pub clear_in : List ℕ → Result Clear BodyFault
clear_in bytes = do
  body ← body_in bytes
  clear_of body

-- a range of dates that does not end before it begins
abbrev pub in_order : ℕ → ℕ → Result Backfill BodyFault
in_order first last = if nat_le first last then Ok (record { start_date = first; end_date = last }) else Err (BadMember EndDate)

-- the range of dates for whose points a DAG is to have runs: both ends have to be there
abbrev pub backfill_in : List ℕ → Result Backfill BodyFault
backfill_in bytes = do
  body ← body_in bytes
  first ← required_in instant_in StartDate body
  last ← required_in instant_in EndDate body
  in_order first last
