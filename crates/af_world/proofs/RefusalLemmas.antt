-- What is refused leaves versions, state and entries.
use Rattle.std.proofs.Common.{◌≡◌, ◌∙◌, ◌⊎◌, inl, inr, sym, ap, ℕ, Bool, true, false, cond}
use Rattle.std.specs.Prelude.{Option, Some, None, unwrap_or}
use Rattle.af_sched.specs.declared.claim.Claim.{Claim}
use Rattle.af_sched.specs.declared.report_fault.ReportFault.{ReportFault}
use Rattle.af_sched.specs.declared.report_fault.ReportFault.TheVariants.{NoSuchInstance, NotRunning, WrongTry}
use Rattle.af_ops.specs.declared.shown_answer.Shown.{Shown}
use Rattle.af_ops.specs.declared.status.Status.TheVariants.{Unauthorized, Forbidden}
use Rattle.af_audit.specs.Ledgers.{LedgerRows}
use Rattle.af_world.specs.declared.step.Step.TheVariants as step
use Rattle.af_world.specs.Laws.{RefusalsChangeNothing}
use Rattle.af_world.specs.declared.reporting.Reporting.{Reporting}
use Rattle.af_world.specs.declared.reporting.Reporting.TheVariants.{Faulty, NoRoom, Takes}
use Rattle.af_world.specs.Plane.{claim_told, left_by_report, report_status, report_told, reporting, tick_told}
use Rattle.af_world.specs.Moving.{Move, looked, move_of, stays}
use Rattle.af_world.specs.Worlds.{World, has_session}
use Rattle.af_world.proofs.ActLemmas.{act_says}
use Rattle.af_world.proofs.PublishLemmas.{me_says, publish_says}
use Rattle.af_world.proofs.ToldLemmas.{IsOther}

-- the plane's own answers are neither 401 nor 403
tick_status : (ledger : LedgerRows) (told : Option Bool) → IsOther (tick_told ledger told).status
tick_status ledger None = (λ e. cc, λ e. cc)
tick_status ledger (Some changed) = (λ e. cc, λ e. cc)

claim_status : (ledger : LedgerRows) (told : Option (Option Claim)) → IsOther (claim_told ledger told).status
claim_status ledger None = (λ e. cc, λ e. cc)
claim_status ledger (Some claim) = (λ e. cc, λ e. cc)

fault_status : (fault : ReportFault) → IsOther (report_status fault)
fault_status NoSuchInstance = (λ e. cc, λ e. cc)
fault_status NotRunning = (λ e. cc, λ e. cc)
fault_status WrongTry = (λ e. cc, λ e. cc)

reported_status : (ledger : LedgerRows) (comes : Reporting) → IsOther (report_told ledger comes).status
reported_status ledger (Faulty fault) = fault_status fault
reported_status ledger NoRoom = (λ e. cc, λ e. cc)
reported_status ledger (Takes claim) = (λ e. cc, λ e. cc)

-- so a step with such an answer was none of them
never : {P : Type 0} (answer : Option Shown) (told shown : Shown) → IsOther told.status → answer ≡ Some told → answer ≡ Some shown → (shown.status ≡ Unauthorized) ⊎ (shown.status ≡ Forbidden) → P
never answer told shown other is e refused =
    let same : told.status ≡ shown.status = ap (λ (o : Option Shown). (unwrap_or o shown).status) (sym is ∙ e) in
    elim refused [ inl unknown ↦ absurd (other.0 (same ∙ unknown)) | inr forbidden ↦ absurd (other.1 (same ∙ forbidden)) ]

-- nor is a look
silent : (w : World) (session : ℕ) (shown : Shown) (there : Bool) → (cond there (move_of None (looked w session)) (stays w)).answer ≡ Some shown → ⊥
silent w session shown true e = cc
silent w session shown false e = cc

pub refusals : RefusalsChangeNothing
refusals w (step.Look session) m shown is e refused =
    absurd (silent w session shown (has_session w session) (sym (ap (λ (it : Move). it.answer) is) ∙ e))
refusals w (step.Act session token asked t) m shown is e refused = (act_says w session token shown asked t m is e).leaves refused
refusals w (step.Me session token asked) m shown is e refused = (me_says w session token shown asked m is e).leaves refused
refusals w (step.Publish session at token asked) m shown is e refused = (publish_says w session at token shown asked m is e).leaves refused
refusals w (step.Tick t) m shown is e refused = never m.answer (tick_told m.next.ledger is.told) shown (tick_status m.next.ledger is.told) is.answered e refused
refusals w (step.Claim t) m shown is e refused = never m.answer (claim_told m.next.ledger is.told) shown (claim_status m.next.ledger is.told) is.answered e refused
refusals w (step.Report it t) m shown is e refused =
    let comes : Reporting = reporting w.ledger it in
    let left : LedgerRows = left_by_report w.ledger it.outcome t comes in
    never m.answer (report_told left comes) shown (reported_status left comes) (ap (λ (move : Move). move.answer) is) e refused
