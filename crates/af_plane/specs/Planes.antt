-- The ledger of the plane is the ledger of a world. What each call of the plane tells and leaves is one step of every world over that ledger,
-- whoever holds the plane there and whatever the sessions have seen (this product's own rule).
use Rattle.std.specs.Prelude.{◌≡◌, ℕ, List, Bool, true, false, Option, Some, None, Result, Ok, Err}
use Rattle.af_policy.specs.Identity.{bearer_of}
use Rattle.af_policy.specs.Rows.{PolicyRows}
use Rattle.af_policy.specs.Versions.{VersionRows}
use Rattle.af_sched.specs.declared.claim.Claim.{Claim}
use Rattle.af_sched.specs.declared.outcome.Outcome.{Outcome}
use Rattle.af_ops.specs.declared.call.Call.{Call}
use Rattle.af_ops.specs.declared.call.Call.TheVariants as call
use Rattle.af_ops.specs.declared.served.Served.{Served}
use Rattle.af_ops.specs.declared.served.Served.TheVariants as served
use Rattle.af_ops.specs.declared.shown_answer.Shown.{Shown}
use Rattle.af_ops.specs.Endpoints.{endpoint_of}
use Rattle.af_ops.specs.PolicyVerdicts.{current}
use Rattle.af_ops.specs.Served.{IsServed}
use Rattle.af_ops.specs.Table.{is_open}
use Rattle.af_audit.specs.declared.audit_fault.AuditFault.{AuditFault}
use Rattle.af_audit.specs.declared.audit_fault.AuditFault.TheVariants.{HistoryFull, OutOfMemory}
use Rattle.af_audit.specs.declared.report_refusal.ReportRefusal.{ReportRefusal}
use Rattle.af_audit.specs.declared.report_refusal.ReportRefusal.TheVariants as refusal
use Rattle.af_audit.specs.Answered.{MayEnter, standing_of, verdict_on}
use Rattle.af_audit.specs.EventLogs.{entries_verdict, nameless}
use Rattle.af_audit.specs.Ledgers.{LedgerRows}
use Rattle.af_world.specs.declared.reporting.Reporting.{Reporting}
use Rattle.af_world.specs.declared.reporting.Reporting.TheVariants.{Faulty, NoRoom, Takes}
use Rattle.af_world.specs.declared.session.Seen.{Seen}
use Rattle.af_world.specs.declared.step.Step.TheVariants as step
use Rattle.af_world.specs.declared.try_report.TryReport.{TryReport}
use Rattle.af_world.specs.Acting.{holds}
use Rattle.af_world.specs.Moving.{move_of}
use Rattle.af_world.specs.Plane.{claim_told, report_told, tick_told}
use Rattle.af_world.specs.Steps.{Moves}
use Rattle.af_world.specs.Worlds.{World, has_session, sees, sees_entries}

-- the world over these versions and this ledger, whose plane is held so, and whose sessions have seen this
abbrev pub over : VersionRows → LedgerRows → Option ℕ → List Seen → World
over versions ledger holder sessions = record { versions = versions; ledger = ledger; holder = holder; sessions = sessions }

-- ---- looks

-- a session that is there looks: it has then seen the latest version, and holds the plane
abbrev pub LookIn : VersionRows → LedgerRows → LedgerRows → Type 0
LookIn versions old new =
    (holder : Option ℕ) (sessions : List Seen) (session : ℕ) → has_session (over versions old holder sessions) session ≡ true
    → Moves (over versions old holder sessions) (step.Look session) (move_of None (sees (over versions new (Some session) sessions) session (current versions)))

-- ---- acts

-- what the plane makes of a call under a policy; an operation on the policy is none of its own
abbrev pub Applies : PolicyRows → LedgerRows → Option (List ℕ) → Call → ℕ → Option Served → LedgerRows → Type 0
Applies policy old token (call.State asked) t (Some gave) new =
    IsServed asked (verdict_on policy old token asked t) (standing_of old) gave (standing_of new) × MayEnter (bearer_of policy token) asked t old new
Applies policy old token (call.Entries window) t (Some gave) new =
    IsServed nameless (entries_verdict policy old token window) (standing_of old) gave (standing_of old) × (new ≡ old)
Applies policy old token (call.Policy asked) t (Some gave) new = ⊥
Applies policy old token (call.State asked) t None new = ⊥
Applies policy old token (call.Entries window) t None new = ⊥
Applies policy old token (call.Policy asked) t None new = new ≡ old

-- a session that holds the plane acts, and is told this: it has then seen all entries, and nobody holds the plane
abbrev pub ActIn : VersionRows → LedgerRows → Option (List ℕ) → Call → ℕ → Shown → LedgerRows → Type 0
ActIn versions old token asked t shown new =
    (holder : Option ℕ) (sessions : List Seen) (session : ℕ) → holds (over versions old holder sessions) session ≡ true
    → Moves (over versions old holder sessions) (step.Act session token asked t) (move_of (Some shown) (sees_entries (over versions new None sessions) session))

-- where there was no memory, nothing is done
abbrev pub ServesAct : VersionRows → LedgerRows → Option (List ℕ) → Call → ℕ → Served → LedgerRows → Type 0
ServesAct versions old token asked t (served.Shown shown) new = ActIn versions old token asked t shown new
ServesAct versions old token asked t served.NothingDone new = new ≡ old

-- what an apply of a call came to; an open operation is decided under no policy, which is no step, and leaves the ledger
abbrev pub ApplyIs : VersionRows → LedgerRows → Option (List ℕ) → Call → ℕ → Option Served → LedgerRows → Type 0
ApplyIs versions old token (call.State asked) t (Some gave) new =
    (is_open (endpoint_of asked) ≡ false → ServesAct versions old token (call.State asked) t gave new) × (is_open (endpoint_of asked) ≡ true → new ≡ old)
ApplyIs versions old token (call.Entries window) t (Some gave) new = ServesAct versions old token (call.Entries window) t gave new
ApplyIs versions old token (call.Policy asked) t (Some gave) new = ⊥
ApplyIs versions old token (call.State asked) t None new = ⊥
ApplyIs versions old token (call.Entries window) t None new = ⊥
ApplyIs versions old token (call.Policy asked) t None new = new ≡ old

-- ---- ticks and claims

abbrev pub TickIn : LedgerRows → ℕ → Option Bool → LedgerRows → Type 0
TickIn old t told new =
    (versions : VersionRows) (holder : Option ℕ) (sessions : List Seen)
    → Moves (over versions old holder sessions) (step.Tick t) (move_of (Some (tick_told new told)) (over versions new None sessions))

-- what a tick came to
abbrev pub TickIs : LedgerRows → ℕ → Result Bool AuditFault → LedgerRows → Type 0
TickIs old t (Ok changed) new = TickIn old t (Some changed) new
TickIs old t (Err HistoryFull) new = TickIn old t None new
TickIs old t (Err OutOfMemory) new = new ≡ old

abbrev pub ClaimIn : LedgerRows → ℕ → Option (Option Claim) → LedgerRows → Type 0
ClaimIn old t told new =
    (versions : VersionRows) (holder : Option ℕ) (sessions : List Seen)
    → Moves (over versions old holder sessions) (step.Claim t) (move_of (Some (claim_told new told)) (over versions new None sessions))

-- what a claim came to
abbrev pub ClaimIs : LedgerRows → ℕ → Result (Option Claim) AuditFault → LedgerRows → Type 0
ClaimIs old t (Ok claim) new = ClaimIn old t (Some claim) new
ClaimIs old t (Err HistoryFull) new = ClaimIn old t None new
ClaimIs old t (Err OutOfMemory) new = new ≡ old

-- ---- reports

-- the report of the try that was claimed
abbrev pub try_of : Claim → Outcome → TryReport
try_of claim outcome = record { run_number = claim.run_number; task_id = claim.task_id; try_number = claim.try_number; outcome = outcome }

abbrev pub ReportIn : LedgerRows → Claim → Outcome → ℕ → Reporting → LedgerRows → Type 0
ReportIn old claim outcome t comes new =
    (versions : VersionRows) (holder : Option ℕ) (sessions : List Seen)
    → Moves (over versions old holder sessions) (step.Report (try_of claim outcome) t) (move_of (Some (report_told new comes)) (over versions new None sessions))

-- what a report came to
abbrev pub ReportIs : LedgerRows → Claim → Outcome → ℕ → Result (Unit {0}) ReportRefusal → LedgerRows → Type 0
ReportIs old claim outcome t (Ok done) new = ReportIn old claim outcome t (Takes claim) new
ReportIs old claim outcome t (Err (refusal.Fault fault)) new = ReportIn old claim outcome t (Faulty fault) new
ReportIs old claim outcome t (Err (refusal.Audit HistoryFull)) new = ReportIn old claim outcome t NoRoom new
ReportIs old claim outcome t (Err (refusal.Audit OutOfMemory)) new = new ≡ old
