-- Event logs: the entries as rows that are told (Airflow 2, "Stable REST API": event logs). The names of events that have no
-- operation of Airflow's are this product's own rule.
use Rattle.std.specs.Prelude.{ℕ, List, [], ◌∷◌, Bool, Option, Some, None, unwrap_or, Result, Ok, Err, codes, filter, length, map}
use Rattle.serde_json.specs.Data.{Data, null, number, unsigned, string}
use Rattle.af_listing.specs.Pages.{cut, shows}
use Rattle.af_listing.specs.Windows.{Cut}
use Rattle.af_ops.specs.declared.body_fault.BodyFault.{BodyFault}
use Rattle.af_ops.specs.declared.op.Op.{Op}
use Rattle.af_ops.specs.declared.op.Op.TheVariants as op
use Rattle.af_ops.specs.declared.trigger.Trigger.{Trigger}
use Rattle.af_ops.specs.Effects.{id_or, made_id}
use Rattle.af_ops.specs.Endpoints.{dag_of, run_of, task_of}
use Rattle.af_ops.specs.Events.{op_event}
use Rattle.af_ops.specs.Fields.{Field, instant_data, listing_of, object_of}
use Rattle.af_audit.specs.declared.act.Act.{Act}
use Rattle.af_audit.specs.declared.act.Act.TheVariants as act
use Rattle.af_audit.specs.declared.actor.Actor.{Actor}
use Rattle.af_audit.specs.declared.actor.Actor.TheVariants as actor
use Rattle.af_audit.specs.declared.entry.Entry.{Entry}
use Rattle.af_audit.specs.declared.run_name.RunName.{RunName}
use Rattle.af_audit.specs.declared.run_name.RunName.TheVariants.{Given, Made}

-- the event of an act
abbrev pub event_of : Act → List ℕ
event_of (act.Did asked) = op_event asked
event_of act.Tick = codes "tick"
event_of (act.Claim claimed) = codes "claim"
event_of (act.Report claimed outcome) = codes "report"

-- the DAG that an act names: that of the request's path, or of the instance that is claimed or reported; a tick names none
abbrev pub act_dag : Act → Option (List ℕ)
act_dag (act.Did asked) = dag_of asked
act_dag act.Tick = None
act_dag (act.Claim claimed) = Some claimed.dag_id
act_dag (act.Report claimed outcome) = Some claimed.dag_id

-- the id of a run: one that was given, or the one that is made of a date
abbrev pub id_named : RunName → List ℕ
id_named (Given run_id) = run_id.now
id_named (Made date) = made_id date.now

-- the run that a trigger adds at a moment, by what was read of its body
abbrev pub triggered_in : Result Trigger BodyFault → ℕ → Option (List ℕ)
triggered_in (Ok asked) t = Some (id_or asked.dag_run_id (unwrap_or asked.logical_date t))
triggered_in (Err fault) t = None

-- the run that an operation at a moment names: the one that it triggers, or that of its path or its body
abbrev pub op_run : Op → ℕ → Option (List ℕ)
op_run (op.TriggerRun dag_id input) t = triggered_in input t
op_run asked t = run_of asked

-- the run that an act at a moment names
abbrev pub act_run : Act → ℕ → Option (List ℕ)
act_run (act.Did asked) t = op_run asked t
act_run act.Tick t = None
act_run (act.Claim claimed) t = Some claimed.run_id
act_run (act.Report claimed outcome) t = Some claimed.run_id

abbrev pub entry_run : Entry → Option (List ℕ)
entry_run entry = act_run entry.act entry.moment

-- the task
abbrev pub act_task : Act → Option (List ℕ)
act_task (act.Did asked) = task_of asked
act_task act.Tick = None
act_task (act.Claim claimed) = Some claimed.task_id
act_task (act.Report claimed outcome) = Some claimed.task_id

abbrev pub owner_of : Actor → List ℕ
owner_of (actor.User user) = user
owner_of actor.Scheduler = codes "scheduler"
owner_of actor.Executor = codes "executor"

-- a name, or null for none
abbrev pub name_data : Option (List ℕ) → Data
name_data None = null
name_data (Some name) = string name

abbrev pub entry_fields : Entry → List Field
entry_fields entry =
    (codes "dag_id", name_data (act_dag entry.act))
    ∷ (codes "event", string (event_of entry.act))
    ∷ (codes "event_log_id", number (unsigned entry.seq))
    ∷ (codes "owner", string (owner_of entry.actor))
    ∷ (codes "policy_version", number (unsigned entry.version))
    ∷ (codes "run_id", name_data (entry_run entry))
    ∷ (codes "task_id", name_data (act_task entry.act))
    ∷ (codes "when", instant_data (Some entry.moment))
    ∷ []

-- the entries that a reader of these DAGs is shown, in order of their numbers: those that name one of them, and those that name none
abbrev pub shown_entries : (List ℕ → Bool) → List Entry → List Entry
shown_entries reads entries = filter (shows reads (λ entry. act_dag entry.act)) entries

-- rows of event logs, and how many there are in all
abbrev pub logs_data : List Entry → ℕ → Data
logs_data rows total = listing_of (codes "event_logs") (map (λ entry. object_of (entry_fields entry)) rows) total

-- of the entries that a reader is shown, those of a page, and how many there are
abbrev pub entries_data : (List ℕ → Bool) → Cut → List Entry → Data
entries_data reads window entries =
    logs_data (cut window (shown_entries reads entries)) (length (shown_entries reads entries))
