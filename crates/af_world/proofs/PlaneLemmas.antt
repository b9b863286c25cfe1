-- What ticks, claims and reports keep.
use Rattle.std.proofs.Common.{◌≡◌, ◌∙◌, refl, sym, subst, ℕ, [], ◌∷◌, ◌++◌, Bool, true, false, arith}
use Rattle.std.specs.Prelude.{⊤, Option, Some, None, ok_or, option_to_list, if◌then◌else◌}
use Rattle.af_policy.specs.Versions.{all_versions}
use Rattle.af_sched.specs.State.{StateRows}
use Rattle.af_sched.specs.declared.claim.Claim.{Claim}
use Rattle.af_sched.specs.declared.outcome.Outcome.{Outcome}
use Rattle.af_sched.specs.declared.report_fault.ReportFault.{ReportFault}
use Rattle.af_sched.specs.Reports.{report_fault, reported}
use Rattle.af_ops.specs.declared.shown_answer.Shown.{Shown}
use Rattle.af_audit.specs.declared.act.Act.TheVariants as act
use Rattle.af_audit.specs.declared.actor.Actor.TheVariants as actor
use Rattle.af_audit.specs.declared.audit_fault.AuditFault.TheVariants.{HistoryFull}
use Rattle.af_audit.specs.Acts.{IsState}
use Rattle.af_audit.specs.Claimed.{IsClaimed}
use Rattle.af_audit.specs.Entries.{has_room}
use Rattle.af_audit.specs.Ledgers.{Climb, LedgerRows}
use Rattle.af_audit.specs.Ticked.{IsTicked}
use Rattle.af_world.specs.declared.step.Step.{Step}
use Rattle.af_world.specs.declared.reporting.Reporting.{Reporting}
use Rattle.af_world.specs.declared.reporting.Reporting.TheVariants.{Faulty, NoRoom, Takes}
use Rattle.af_world.specs.Plane.{left_by_report, reporting_of, taken}
use Rattle.af_world.specs.Runs.{session_of, told_by}
use Rattle.af_world.specs.Moving.{Move, move_of}
use Rattle.af_world.specs.Worlds.{World, is_held}
use Rattle.af_world.proofs.SeenLemmas.{seen}
use Rattle.af_world.proofs.WorldLemmas.{Goes, GoesOn, IsWorld, Keeps, keeps_entered, keeps_same, kept_ledger}

module _ (opening : StateRows) where
  pub goes_ledger : (w : World) (s : Step) (answer : Option Shown) (ledger : LedgerRows) → session_of s ≡ None → IsWorld opening w → Keeps (all_versions w.versions) w.ledger ledger → GoesOn opening w s (move_of answer (record w { ledger = ledger; holder = None }))
  goes_ledger w s answer ledger nobody kept keeps state = record {
    kept = kept_ledger opening w ledger kept keeps state;
    climbs = λ t. by_answer t answer;
    as_seen = λ t shown e of. (let none : None ≡ Some t = sym nobody ∙ of in absurd (cc));
  }
    where
      by_answer : (t : ℕ) (answer : Option Shown) → Climb (seen w.sessions t) (told_by t s answer ++ seen w.sessions t ∷ [])
      by_answer t None = (omega arith, tt)
      by_answer t (Some shown) =
          subst (λ (o : Option ℕ). Climb (seen w.sessions t) ((if is_held o t then option_to_list shown.version else []) ++ seen w.sessions t ∷ [])) (sym nobody) (omega arith, tt)

  -- the ledger alone was changed, and nobody holds
  pub goes_rest : (w : World) (s : Step) (m : Move) → session_of s ≡ None → IsWorld opening w → m.next ≡ record w { ledger = m.next.ledger; holder = None } → Keeps (all_versions w.versions) w.ledger m.next.ledger → GoesOn opening w s m
  goes_rest w s m nobody kept rest keeps state =
      subst (λ (next : World). Goes opening w s (move_of m.answer next)) (sym rest) (goes_ledger w s m.answer m.next.ledger nobody kept keeps state)

  pub tick_keeps : (w : World) (t : ℕ) (new : LedgerRows) (told : Option Bool) → IsWorld opening w → IsTicked t w.ledger new (ok_or told HistoryFull) → IsState new.state → Keeps (all_versions w.versions) w.ledger new
  tick_keeps w t new (Some true) kept is state =
      subst (Keeps (all_versions w.versions) w.ledger) (sym is.ledger)
      (keeps_entered (all_versions w.versions) w.ledger kept.ledger kept.granted actor.Scheduler act.Tick t new.state is.room refl state is.after tt)
  tick_keeps w t new (Some false) kept is state = keeps_same (all_versions w.versions) w.ledger kept.ledger kept.granted new is.ledger
  tick_keeps w t new None kept is state = keeps_same (all_versions w.versions) w.ledger kept.ledger kept.granted new is.ledger

  pub claim_keeps : (w : World) (t : ℕ) (new : LedgerRows) (told : Option (Option Claim)) → IsWorld opening w → IsClaimed t w.ledger new (ok_or told HistoryFull) → IsState new.state → Keeps (all_versions w.versions) w.ledger new
  claim_keeps w t new (Some (Some claim)) kept is state =
      subst (Keeps (all_versions w.versions) w.ledger) (sym is.ledger)
      (keeps_entered (all_versions w.versions) w.ledger kept.ledger kept.granted actor.Executor (act.Claim claim) t new.state is.room refl state (Some claim, is.claims) tt)
  claim_keeps w t new (Some None) kept is state = keeps_same (all_versions w.versions) w.ledger kept.ledger kept.granted new is.ledger
  claim_keeps w t new None kept is state = keeps_same (all_versions w.versions) w.ledger kept.ledger kept.granted new is.ledger

  -- where a report is taken there is room for its entry
  abbrev pub Roomy : LedgerRows → Reporting → Type 0
  Roomy ledger (Faulty fault) = ⊤
  Roomy ledger NoRoom = ⊤
  Roomy ledger (Takes claim) = has_room ledger.audit ≡ true

  pub roomy : (ledger : LedgerRows) (claim : Option Claim) → Roomy ledger (reporting_of ledger claim)
  roomy ledger None = tt
  roomy ledger (Some claim) = by_fault (report_fault ledger.state claim)
    where
      by_room : (room : Bool) → has_room ledger.audit ≡ room → Roomy ledger (if room then Takes claim else NoRoom)
      by_room true is = is
      by_room false is = tt

      by_fault : (fault : Option ReportFault) → Roomy ledger (taken ledger claim fault)
      by_fault (Some fault) = tt
      by_fault None = by_room (has_room ledger.audit) refl

  pub report_keeps : (w : World) (outcome : Outcome) (t : ℕ) (comes : Reporting) → IsWorld opening w → Roomy w.ledger comes → IsState (left_by_report w.ledger outcome t comes).state → Keeps (all_versions w.versions) w.ledger (left_by_report w.ledger outcome t comes)
  report_keeps w outcome t (Faulty fault) kept room state = keeps_same (all_versions w.versions) w.ledger kept.ledger kept.granted w.ledger refl
  report_keeps w outcome t NoRoom kept room state = keeps_same (all_versions w.versions) w.ledger kept.ledger kept.granted w.ledger refl
  report_keeps w outcome t (Takes claim) kept room state =
      keeps_entered (all_versions w.versions) w.ledger kept.ledger kept.granted actor.Executor (act.Report claim outcome) t (reported t outcome w.ledger.state claim) room refl state refl tt
