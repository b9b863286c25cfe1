-- The same steps have one list of answers, and lead to one world.
use Rattle.std.proofs.Common.{◌≡◌, ◌∙◌, refl, sym, ap, subst, ℕ, [], ◌∷◌, Bool, true, false}
use Rattle.std.specs.Prelude.{Option, Some, None, ok_or, unwrap_or}
use Rattle.af_runs.specs.Runs.{AreRuns}
use Rattle.af_sched.specs.Laws.{ClaimIsOne, TickIsOne}
use Rattle.af_sched.specs.State.{AreRows}
use Rattle.af_sched.specs.declared.claim.Claim.{Claim}
use Rattle.af_audit.specs.declared.act.Act.TheVariants as act
use Rattle.af_audit.specs.declared.actor.Actor.TheVariants.{Executor, Scheduler}
use Rattle.af_audit.specs.declared.audit_fault.AuditFault.TheVariants.{HistoryFull}
use Rattle.af_audit.specs.Acts.{IsState}
use Rattle.af_audit.specs.Claimed.{IsClaimed}
use Rattle.af_audit.specs.Ledgers.{LedgerRows, entered}
use Rattle.af_audit.specs.Ticked.{IsTicked}
use Rattle.af_world.specs.declared.step.Step.{Step}
use Rattle.af_world.specs.declared.step.Step.TheVariants as step
use Rattle.af_world.specs.Laws.{RunsAreOne}
use Rattle.af_world.specs.Plane.{claim_told, tick_told}
use Rattle.af_world.specs.Runs.{IsRun}
use Rattle.af_world.specs.Moving.{Move, move_of}
use Rattle.af_world.specs.Steps.{Moves}
use Rattle.af_world.specs.Worlds.{World}

room_full : {P : Type 0} (room : Bool) → room ≡ true → room ≡ false → P
room_full room is not = (let e : true ≡ false = sym is ∙ not in absurd (cc))

module _ (ticks : TickIsOne) (claims : ClaimIsOne) where
  ticked_one : (t : ℕ) (old one other : LedgerRows) (x y : Option Bool) → AreRows old.state.dags old.state.runs → IsTicked t old one (ok_or x HistoryFull) → IsTicked t old other (ok_or y HistoryFull) → (x ≡ y) × (one ≡ other)
  ticked_one t old one other (Some true) (Some true) rows first second =
      let same : one.state ≡ other.state = ticks t old.state one.state other.state rows first.after second.after in
      (refl, first.ledger ∙ ap (entered old Scheduler act.Tick t) same ∙ sym second.ledger)
  ticked_one t old one other (Some true) (Some false) rows first second =
      absurd (first.changed (ticks t old.state one.state old.state rows first.after second.after))
  ticked_one t old one other (Some true) None rows first second = room_full _ first.room second.full
  ticked_one t old one other (Some false) (Some true) rows first second =
      absurd (second.changed (ticks t old.state other.state old.state rows second.after first.after))
  ticked_one t old one other (Some false) (Some false) rows first second = (refl, first.ledger ∙ sym second.ledger)
  ticked_one t old one other (Some false) None rows first second =
      absurd (second.changed (ticks t old.state second.next old.state rows second.after first.after))
  ticked_one t old one other None (Some true) rows first second = room_full _ second.room first.full
  ticked_one t old one other None (Some false) rows first second =
      absurd (first.changed (ticks t old.state first.next old.state rows first.after second.after))
  ticked_one t old one other None None rows first second = (refl, first.ledger ∙ sym second.ledger)

  claimed_one : (t : ℕ) (old one other : LedgerRows) (x y : Option (Option Claim)) → AreRuns old.state.runs old.state.next_run → IsClaimed t old one (ok_or x HistoryFull) → IsClaimed t old other (ok_or y HistoryFull) → (x ≡ y) × (one ≡ other)
  claimed_one t old one other (Some (Some c)) (Some (Some d)) runs first second =
      let both = claims t old.state one.state other.state (Some c) (Some d) runs first.claims second.claims in
      let same : c ≡ d = ap (λ (o : Option Claim). unwrap_or o c) both.1 in
      let ledgers : entered old Executor (act.Claim c) t one.state ≡ entered old Executor (act.Claim d) t other.state = λ i. entered old Executor (act.Claim (same i)) t (both.0 i) in
      (ap (λ (o : Option Claim). Some o) both.1, first.ledger ∙ ledgers ∙ sym second.ledger)
  claimed_one t old one other (Some (Some c)) (Some None) runs first second =
      (let both = claims t old.state one.state old.state (Some c) None runs first.claims (record { none = second.none; state = refl }) in let e = both.1 in absurd (cc))
  claimed_one t old one other (Some (Some c)) None runs first second = room_full _ first.room second.full
  claimed_one t old one other (Some None) (Some (Some d)) runs first second =
      (let both = claims t old.state other.state old.state (Some d) None runs second.claims (record { none = first.none; state = refl }) in let e = both.1 in absurd (cc))
  claimed_one t old one other (Some None) (Some None) runs first second = (refl, first.ledger ∙ sym second.ledger)
  claimed_one t old one other (Some None) None runs first second =
      room_full _ second.told.is_first.passes (first.none second.told.first second.told.is_first.member)
  claimed_one t old one other None (Some (Some d)) runs first second = room_full _ second.room first.full
  claimed_one t old one other None (Some None) runs first second =
      room_full _ first.told.is_first.passes (second.none first.told.first first.told.is_first.member)
  claimed_one t old one other None None runs first second = (refl, first.ledger ∙ sym second.ledger)

  -- a step has one answer, and leaves one world
  pub moves_one : (w : World) (s : Step) (m n : Move) → IsState w.ledger.state → Moves w s m → Moves w s n → m ≡ n
  moves_one w (step.Look session) m n state first second = first ∙ sym second
  moves_one w (step.Act session token asked t) m n state first second = first ∙ sym second
  moves_one w (step.Me session token asked) m n state first second = first ∙ sym second
  moves_one w (step.Publish session at token asked) m n state first second = first ∙ sym second
  moves_one w (step.Report it t) m n state first second = first ∙ sym second
  moves_one w (step.Tick t) m n state first second =
      let both = ticked_one t w.ledger m.next.ledger n.next.ledger first.told second.told state.rows first.ticked second.ticked in
      let answers : m.answer ≡ n.answer = first.answered ∙ (λ i. Some (tick_told (both.1 i) (both.0 i))) ∙ sym second.answered in
      let worlds : m.next ≡ n.next = first.rest ∙ (λ i. record w { ledger = both.1 i; holder = None }) ∙ sym second.rest in
      λ i. record { answer = answers i; next = worlds i }
  moves_one w (step.Claim t) m n state first second =
      let both = claimed_one t w.ledger m.next.ledger n.next.ledger first.told second.told state.runs first.claimed second.claimed in
      let answers : m.answer ≡ n.answer = first.answered ∙ (λ i. Some (claim_told (both.1 i) (both.0 i))) ∙ sym second.answered in
      let worlds : m.next ≡ n.next = first.rest ∙ (λ i. record w { ledger = both.1 i; holder = None }) ∙ sym second.rest in
      λ i. record { answer = answers i; next = worlds i }

  pub runs_one : RunsAreOne
  runs_one w one other [] [] [] state first second = (refl, first ∙ sym second)
  runs_one w one other [] [] (b ∷ others) state first second = absurd second
  runs_one w one other [] (a ∷ answers) others state first second = absurd first
  runs_one w one other (s ∷ steps) [] others state first second = absurd first
  runs_one w one other (s ∷ steps) (a ∷ answers) [] state first second = absurd second
  runs_one w one other (s ∷ steps) (a ∷ answers) (b ∷ others) state first second =
      let same : move_of a first.0 ≡ move_of b second.0 = moves_one w s (move_of a first.0) (move_of b second.0) state first.2 second.2 in
      let later : IsRun first.0 steps others other = subst (λ (next : World). IsRun next steps others other) (sym (ap (λ (m : Move). m.next) same)) second.3 in
      let rest = runs_one first.0 one other steps answers others first.1 first.3 later in
      let head : a ≡ b = ap (λ (m : Move). m.answer) same in
      (λ i. head i ∷ rest.0 i, rest.1)
