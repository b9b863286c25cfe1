-- Ticks, claims and reports of the plane are steps of the world.
use Rattle.std.proofs.Common.{◌≡◌, ◌∙◌, refl, sym, ap, ℕ, Bool, true, false}
use Rattle.std.specs.Prelude.{Option, Some, None, Result, Ok, Err, ok_or, option_map, unwrap_or, if◌then◌else◌}
use Rattle.af_runs.specs.Runs.{run_at}
use Rattle.af_runs.specs.declared.run.Run.{Run}
use Rattle.af_sched.specs.Reports.{report_fault}
use Rattle.af_sched.specs.declared.claim.Claim.{Claim}
use Rattle.af_sched.specs.declared.outcome.Outcome.{Outcome}
use Rattle.af_sched.specs.declared.report_fault.ReportFault.{ReportFault}
use Rattle.af_sched.specs.declared.report_fault.ReportFault.TheVariants.{NoSuchInstance}
use Rattle.af_ops.specs.declared.shown_answer.Shown.{Shown}
use Rattle.af_audit.specs.declared.audit_fault.AuditFault.{AuditFault}
use Rattle.af_audit.specs.declared.audit_fault.AuditFault.TheVariants.{HistoryFull, OutOfMemory}
use Rattle.af_audit.specs.declared.report_refusal.ReportRefusal.{ReportRefusal}
use Rattle.af_audit.specs.declared.report_refusal.ReportRefusal.TheVariants as refusal
use Rattle.af_audit.specs.Claimed.{IsClaimed}
use Rattle.af_audit.specs.Entries.{has_room}
use Rattle.af_audit.specs.Ledgers.{LedgerRows}
use Rattle.af_audit.specs.Reported.{IsReported}
use Rattle.af_audit.specs.Ticked.{IsTicked}
use Rattle.af_audit.proofs.ReportedLemmas.{no_run}
use Rattle.af_world.specs.declared.reporting.Reporting.{Reporting}
use Rattle.af_world.specs.declared.reporting.Reporting.TheVariants.{Faulty, NoRoom, Takes}
use Rattle.af_world.specs.Moving.{move_of}
use Rattle.af_world.specs.Plane.{left_by_report, report_told, reporting, reporting_of, taken, try_claim}
use Rattle.af_world.specs.Steps.{reports}
use Rattle.af_world.specs.Worlds.{World}
use Rattle.af_plane.specs.Planes.{ClaimIs, ClaimIn, ReportIs, ReportIn, TickIs, TickIn, over, try_of}

tick_in : (old new : LedgerRows) (t : ℕ) (told : Option Bool) → IsTicked t old new (ok_or told HistoryFull) → TickIn old t told new
tick_in old new t told is versions holder sessions = record { told = told; ticked = is; answered = refl; rest = refl }

pub tick_is : (old new : LedgerRows) (t : ℕ) (told : Result Bool AuditFault) → IsTicked t old new told → TickIs old t told new
tick_is old new t (Ok changed) is = tick_in old new t (Some changed) is
tick_is old new t (Err HistoryFull) is = tick_in old new t None is
tick_is old new t (Err OutOfMemory) is = is

claim_in : (old new : LedgerRows) (t : ℕ) (told : Option (Option Claim)) → IsClaimed t old new (ok_or told HistoryFull) → ClaimIn old t told new
claim_in old new t told is versions holder sessions = record { told = told; claimed = is; answered = refl; rest = refl }

pub claim_is : (old new : LedgerRows) (t : ℕ) (told : Result (Option Claim) AuditFault) → IsClaimed t old new told → ClaimIs old t told new
claim_is old new t (Ok claim) is = claim_in old new t (Some claim) is
claim_is old new t (Err HistoryFull) is = claim_in old new t None is
claim_is old new t (Err OutOfMemory) is = is.ledger

module _ (old new : LedgerRows) (claim : Claim) (outcome : Outcome) (t : ℕ) where
  -- a report that comes to this in the world, and is told as that
  report_in : (comes told : Reporting) → reporting old (try_of claim outcome) ≡ comes → new ≡ left_by_report old outcome t comes → report_told new comes ≡ report_told new told → ReportIn old claim outcome t told new
  report_in comes told is left alike versions holder sessions =
      let w : World = over versions old holder sessions in
      sym (ap (reports w (try_of claim outcome) t) is
      ∙ ap (λ (l : LedgerRows). move_of (Some (report_told l comes)) (over versions l None sessions)) (sym left)
      ∙ ap (λ (shown : Shown). move_of (Some shown) (over versions new None sessions)) alike)

  -- what the world makes of the report, by the run of its number
  by_run : (found : Option Run) → run_at old.state.runs claim.run_number ≡ found → reporting old (try_of claim outcome) ≡ reporting_of old (option_map (try_claim (try_of claim outcome)) found)
  by_run found here = ap (λ (run : Option Run). reporting_of old (option_map (try_claim (try_of claim outcome)) run)) here

  -- a report without a fault of its own, of this run
  by_room : (run : Run) (room : Bool) → report_fault old.state claim ≡ None → has_room old.audit ≡ room → taken old (try_claim (try_of claim outcome) run) (report_fault old.state claim) ≡ (if room then Takes (try_claim (try_of claim outcome) run) else NoRoom)
  by_room run room none is =
      ap (taken old (try_claim (try_of claim outcome) run)) none
      ∙ ap (λ (b : Bool). if b then Takes (try_claim (try_of claim outcome) run) else NoRoom) is

  -- with a fault of its own
  faulty : (found : Option Run) (fault : ReportFault) → run_at old.state.runs claim.run_number ≡ found → report_fault old.state claim ≡ Some fault → reporting old (try_of claim outcome) ≡ Faulty fault
  faulty None fault here is =
      let first : Some NoSuchInstance ≡ Some fault = sym (no_run old.state claim here) ∙ is in
      by_run None here ∙ ap (λ (f : Option ReportFault). Faulty (unwrap_or f fault)) first
  faulty (Some run) fault here is = by_run (Some run) here ∙ ap (taken old (try_claim (try_of claim outcome) run)) is

  -- without room for its entry
  no_room : (found : Option Run) → run_at old.state.runs claim.run_number ≡ found → report_fault old.state claim ≡ None → has_room old.audit ≡ false → reporting old (try_of claim outcome) ≡ NoRoom
  no_room None here none full = (let e : Some NoSuchInstance ≡ None = sym (no_run old.state claim here) ∙ none in absurd (cc))
  no_room (Some run) here none full = by_run (Some run) here ∙ by_room run false none full

  pub report_is : (told : Result (Unit {0}) ReportRefusal) → IsReported t claim outcome old new told → ReportIs old claim outcome t told new
  report_is (Ok done) is =
      report_in (Takes (try_claim (try_of claim outcome) is.run)) (Takes claim) (by_run (Some is.run) is.numbered ∙ by_room is.run true is.no_fault is.room) is.ledger refl
  report_is (Err (refusal.Fault fault)) is =
      report_in (Faulty fault) (Faulty fault) (faulty (run_at old.state.runs claim.run_number) fault refl is.0) is.1 refl
  report_is (Err (refusal.Audit HistoryFull)) is =
      report_in NoRoom NoRoom (no_room (run_at old.state.runs claim.run_number) refl is.no_fault is.full) is.ledger refl
  report_is (Err (refusal.Audit OutOfMemory)) is = is.ledger
