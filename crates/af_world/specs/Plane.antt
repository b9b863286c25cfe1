-- What the plane tells the scheduler and executors, and what a report comes to (this product's own rule): each answer names the
-- plane's version and the number of entries, its own included.
use Rattle.std.specs.Prelude.{ℕ, List, [], ◌++◌, Bool, true, false, Option, Some, None, codes, decimal, option_map, if◌then◌else◌}
use Rattle.af_runs.specs.declared.run.Run.{Run}
use Rattle.af_runs.specs.Runs.{run_at}
use Rattle.af_sched.specs.declared.claim.Claim.{Claim}
use Rattle.af_sched.specs.declared.outcome.Outcome.{Outcome}
use Rattle.af_sched.specs.declared.report_fault.ReportFault.{ReportFault}
use Rattle.af_sched.specs.declared.report_fault.ReportFault.TheVariants.{NoSuchInstance, NotRunning, WrongTry}
use Rattle.af_sched.specs.Reports.{report_fault, reported}
use Rattle.af_ops.specs.declared.shown_answer.Shown.{Shown}
use Rattle.af_ops.specs.declared.status.Status.{Status}
use Rattle.af_ops.specs.declared.status.Status.TheVariants as status
use Rattle.af_ops.specs.Served.{told_under}
use Rattle.af_audit.specs.declared.act.Act.TheVariants as act
use Rattle.af_audit.specs.declared.actor.Actor.TheVariants.{Executor}
use Rattle.af_audit.specs.Answered.{standing_of}
use Rattle.af_audit.specs.Entries.{has_room}
use Rattle.af_audit.specs.Ledgers.{LedgerRows, entered}
use Rattle.af_world.specs.declared.reporting.Reporting.{Reporting}
use Rattle.af_world.specs.declared.reporting.Reporting.TheVariants.{Faulty, NoRoom, Takes}
use Rattle.af_world.specs.declared.try_report.TryReport.{TryReport}

-- what is told where the ledger then stands
abbrev pub plane_told : LedgerRows → Status → List ℕ → Shown
plane_told ledger status body = told_under (standing_of ledger).under status body

-- a full history
abbrev pub full_told : LedgerRows → Shown
full_told ledger = plane_told ledger status.InsufficientStorage (codes "HistoryFull")

-- ---- ticks and claims

abbrev pub tick_word : Bool → List ℕ
tick_word true = codes "changed"
tick_word false = codes "same"

-- whether the tick changed the state, or none where there is no room for its entry
abbrev pub tick_told : LedgerRows → Option Bool → Shown
tick_told ledger None = full_told ledger
tick_told ledger (Some changed) = plane_told ledger status.Ok (tick_word changed)

-- the number of the run, the task and the try
abbrev pub claim_text : Claim → List ℕ
claim_text claim = decimal claim.run_number ++ codes " " ++ claim.task_id ++ codes " " ++ decimal claim.try_number

abbrev pub claim_word : Option Claim → List ℕ
claim_word None = codes "none"
claim_word (Some claim) = claim_text claim

-- what was claimed, if anything, or none where there is no room for the entry
abbrev pub claim_told : LedgerRows → Option (Option Claim) → Shown
claim_told ledger None = full_told ledger
claim_told ledger (Some claim) = plane_told ledger status.Ok (claim_word claim)

-- ---- reports

-- the claim of the try that is reported, of this run
abbrev pub try_claim : TryReport → Run → Claim
try_claim it run = record {
  run_number = it.run_number;
  dag_id = run.dag_id;
  run_id = run.run_id;
  task_id = it.task_id;
  try_number = it.try_number;
}

-- a report's own faults come first, then a full history
abbrev pub taken : LedgerRows → Claim → Option ReportFault → Reporting
taken ledger claim (Some fault) = Faulty fault
taken ledger claim None = if has_room ledger.audit then Takes claim else NoRoom

-- there has to be a run of the number
abbrev pub reporting_of : LedgerRows → Option Claim → Reporting
reporting_of ledger None = Faulty NoSuchInstance
reporting_of ledger (Some claim) = taken ledger claim (report_fault ledger.state claim)

abbrev pub claimed_try : LedgerRows → TryReport → Option Claim
claimed_try ledger it = option_map (try_claim it) (run_at ledger.state.runs it.run_number)

-- what a report comes to
abbrev pub reporting : LedgerRows → TryReport → Reporting
reporting ledger it = reporting_of ledger (claimed_try ledger it)

-- the ledger after it: a report that is taken has one entry
abbrev pub left_by_report : LedgerRows → Outcome → ℕ → Reporting → LedgerRows
left_by_report ledger outcome t (Faulty fault) = ledger
left_by_report ledger outcome t NoRoom = ledger
left_by_report ledger outcome t (Takes claim) =
    entered ledger Executor (act.Report claim outcome) t (reported t outcome ledger.state claim)

abbrev pub report_word : ReportFault → List ℕ
report_word NoSuchInstance = codes "NoSuchInstance"
report_word NotRunning = codes "NotRunning"
report_word WrongTry = codes "WrongTry"

abbrev pub report_status : ReportFault → Status
report_status NoSuchInstance = status.NotFound
report_status NotRunning = status.Conflict
report_status WrongTry = status.Conflict

-- what is told of it, where the ledger then stands
abbrev pub report_told : LedgerRows → Reporting → Shown
report_told ledger (Faulty fault) = plane_told ledger (report_status fault) (report_word fault)
report_told ledger NoRoom = full_told ledger
report_told ledger (Takes claim) = plane_told ledger status.Ok []
