-- What every step keeps and tells: the lemma of a step.
use Rattle.std.proofs.Common.{refl, sym, subst, length}
use Rattle.std.specs.Prelude.{Some, None}
use Rattle.std.proofs.lemmas.Bool.Decides.{Decides-ltb}
use Rattle.af_sched.specs.State.{StateRows}
use Rattle.af_world.specs.declared.reporting.Reporting.{Reporting}
use Rattle.af_world.specs.declared.step.Step.{Step}
use Rattle.af_world.specs.declared.step.Step.TheVariants as step
use Rattle.af_world.specs.Moving.{Move, looked, move_of, stays}
use Rattle.af_world.specs.Plane.{claimed_try, left_by_report, report_told, reporting}
use Rattle.af_world.specs.Steps.{Moves}
use Rattle.af_world.specs.Worlds.{World, has_session}
use Rattle.af_world.proofs.ActedLemmas.{goes_acting}
use Rattle.af_world.proofs.MadeLemmas.{goes_meeting, goes_publishing}
use Rattle.af_world.proofs.PlaneLemmas.{claim_keeps, goes_ledger, goes_rest, report_keeps, roomy, tick_keeps}
use Rattle.af_world.proofs.SightLemmas.{goes_look}
use Rattle.af_world.proofs.WorldLemmas.{Goes, GoesOn, IsWorld, either, goes_nowhere}

module _ (opening : StateRows) where
  pub goes : (w : World) (s : Step) (m : Move) → IsWorld opening w → Moves w s m → GoesOn opening w s m
  goes w (step.Look session) m kept is = λ _.
      subst (Goes opening w (step.Look session)) (sym is)
      (either (Goes opening w (step.Look session)) (has_session w session) (move_of None (looked w session)) (stays w)
      (λ there. goes_look opening w session kept ((Decides-ltb session (length w.sessions)).0 there))
      (λ _. goes_nowhere opening w (step.Look session) kept))
  goes w (step.Act session token asked t) m kept is =
      subst (GoesOn opening w (step.Act session token asked t)) (sym is) (goes_acting opening w session token t kept asked)
  goes w (step.Me session token asked) m kept is = λ _.
      subst (Goes opening w (step.Me session token asked)) (sym is) (goes_meeting opening w session token asked kept)
  goes w (step.Publish session at token asked) m kept is = λ _.
      subst (Goes opening w (step.Publish session at token asked)) (sym is) (goes_publishing opening w session at token asked kept)
  goes w (step.Tick t) m kept is = λ state. goes_rest opening w (step.Tick t) m refl kept is.rest (tick_keeps opening w t m.next.ledger is.told kept is.ticked state) state
  goes w (step.Claim t) m kept is = λ state. goes_rest opening w (step.Claim t) m refl kept is.rest (claim_keeps opening w t m.next.ledger is.told kept is.claimed state) state
  goes w (step.Report it t) m kept is =
      subst (GoesOn opening w (step.Report it t)) (sym is)
      (λ state.
      let comes : Reporting = reporting w.ledger it in
      goes_ledger opening w (step.Report it t) (Some (report_told (left_by_report w.ledger it.outcome t comes) comes)) (left_by_report w.ledger it.outcome t comes) refl kept
      (report_keeps opening w it.outcome t comes kept (roomy opening w.ledger (claimed_try w.ledger it)) state) state)
