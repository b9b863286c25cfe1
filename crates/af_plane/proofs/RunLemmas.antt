-- What a call of a session is in each world over a sheet: no step, or steps of that session.
use Rattle.std.proofs.Common.{◌≡◌, refl, sym, ap, subst, ℕ, ◌≤◌, ◌⊎◌, inl, inr, List, [], ◌∷◌, ◌++◌, Bool, true, false, length-append, arith}
use Rattle.std.specs.Prelude.{Option}
use Rattle.af_policy.specs.Rows.{PolicyRows}
use Rattle.af_policy.specs.Versions.{VersionRows, with_version}
use Rattle.af_ops.specs.declared.call.Call.{Call}
use Rattle.af_ops.specs.declared.call.Call.TheVariants as call
use Rattle.af_ops.specs.declared.op.Op.{Op}
use Rattle.af_ops.specs.declared.policy_op.PolicyOp.{PolicyOp}
use Rattle.af_ops.specs.declared.served.Served.{Served}
use Rattle.af_ops.specs.declared.served.Served.TheVariants as served
use Rattle.af_ops.specs.Endpoints.{endpoint_of}
use Rattle.af_ops.specs.PolicyVerdicts.{current}
use Rattle.af_ops.specs.Table.{is_open}
use Rattle.af_audit.specs.Acts.{IsState}
use Rattle.af_audit.specs.Ledgers.{LedgerRows}
use Rattle.af_board.specs.Marks.{Site, policy_of}
use Rattle.af_world.specs.Runs.{IsRun}
use Rattle.af_world.specs.Worlds.{World}
use Rattle.af_plane.specs.declared.grounds.Grounds.{Grounds}
use Rattle.af_plane.specs.declared.grounds.Grounds.TheVariants.{Made, Overtaken, Spent, Under}
use Rattle.af_plane.specs.Administered.{IsAdministered, IsGiven}
use Rattle.af_plane.specs.Alone.{IsClosed}
use Rattle.af_plane.specs.Events.{AnsweredStep, StandsFor, answers_in, left_by, steps_in, turns_by, turns_on_plane, turns_on_policy}
use Rattle.af_plane.specs.Looks.{Basis, Missed, On, Openly}
use Rattle.af_plane.specs.Requests.{RequestRows}
use Rattle.af_plane.specs.Sheets.{Administers, LooksAndActs, Runs, Sheet, sheet}
use Rattle.af_plane.specs.Solos.{IsDecidedBy}
use Rattle.af_plane.specs.Turns.{IsActed, IsPlaced}
use Rattle.af_plane.specs.Visits.{PlaneRows, SoloRows, Visit}
use Rattle.af_plane.proofs.AskedLemmas.{changes_are_steps, overtaken_is, readings_are_steps}
use Rattle.af_plane.proofs.TurnLemmas.{looks_and_acts}

-- ---- runs

-- a run goes on where another ended
pub run_join : (w mid last : World) (first later : List AnsweredStep) → IsRun w (steps_in first) (answers_in first) mid → IsRun mid (steps_in later) (answers_in later) last → IsRun w (steps_in (first ++ later)) (answers_in (first ++ later)) last
run_join w mid last [] later run more = subst (λ (from : World). IsRun from (steps_in later) (answers_in later) last) run more
run_join w mid last (turn ∷ first) later run more =
    (run.0, run.1, run.2, run_join run.0 mid last first later run.3 more)

-- ---- of one session

-- no step, and the sheet is the same; or steps of a session
abbrev pub MayRun : ℕ → Sheet → List AnsweredStep → Sheet → Type 0
MayRun session old turns new = ((turns ≡ []) × (new ≡ old)) ⊎ Runs session old (steps_in turns) (answers_in turns) new

on_plane : (session : ℕ) (old new : Sheet) (token : Option (List ℕ)) (asked : Call) (t : ℕ) (gave : Served) → LooksAndActs session old token asked t gave new → MayRun session old (turns_on_plane session token asked t gave) new
on_plane session old new token asked t (served.Shown shown) runs = inr runs
on_plane session old new token asked t served.NothingDone runs = inr runs

on_policy : (session : ℕ) (old new : Sheet) (version : ℕ) (token : Option (List ℕ)) (asked : PolicyOp) (gave : Served) → Administers session old version token asked gave new → MayRun session old (turns_on_policy session version token asked gave) new
on_policy session old new version token asked (served.Shown shown) runs = inr runs
on_policy session old new version token asked served.NothingDone same = inl (refl, same)

-- ---- a call on the plane

module _ (session : ℕ) (versions : VersionRows) (site : Site) (token : Option (List ℕ)) (t : ℕ) (gave : Served) (old new : PlaneRows) (was now : Visit) (state : IsState old.ledger.state) (left : IsState new.ledger.state) where
  abbrev asked_so : Call → RequestRows
  asked_so it = record { token = token; call = it; at = t }

  abbrev RunsTo : List AnsweredStep → VersionRows → Type 0
  RunsTo turns later = MayRun session (sheet versions old.ledger) turns (sheet later new.ledger)

  same_ledger : new.ledger ≡ old.ledger → RunsTo [] versions
  same_ledger same = inl (refl, ap (λ (l : LedgerRows). sheet versions l) same)

  -- a turn that looks
  acted_runs : (it : Call) (basis : Basis) → IsClosed it → IsActed site (asked_so it) old was gave new now basis → StandsFor site now versions basis → RunsTo (turns_by session (asked_so it) gave basis) (left_by site versions basis)
  acted_runs it Openly closed is stands = absurd is
  acted_runs it Missed closed is stands = same_ledger is.ledger
  acted_runs (call.State op) (On (Under m)) closed is stands =
      on_plane session (sheet versions old.ledger) (sheet versions new.ledger) token (call.State op) t gave
      (looks_and_acts session versions old.ledger token t state (call.State op) new.ledger gave site m left closed stands is.applied)
  acted_runs (call.Entries window) (On (Under m)) closed is stands =
      on_plane session (sheet versions old.ledger) (sheet versions new.ledger) token (call.Entries window) t gave
      (looks_and_acts session versions old.ledger token t state (call.Entries window) new.ledger gave site m left closed stands is.applied)
  acted_runs (call.Policy asked) (On (Under m)) closed is stands = absurd closed
  acted_runs it (On (Made r)) closed is stands = absurd is
  acted_runs it (On (Overtaken m)) closed is stands = absurd is
  acted_runs it (On (Spent m pushed)) closed is stands = absurd is

  -- an open operation
  openly_runs : (op : Op) (basis : Basis) → new ≡ old → basis ≡ Openly → RunsTo (turns_by session (asked_so (call.State op)) gave basis) (left_by site versions basis)
  openly_runs op basis same openly =
      subst (λ (b : Basis). RunsTo (turns_by session (asked_so (call.State op)) gave b) (left_by site versions b)) (sym openly)
      (same_ledger (ap (λ (p : PlaneRows). p.ledger) same))

  by_open : (op : Op) (b : Bool) (basis : Basis) → is_open (endpoint_of op) ≡ b → IsPlaced site (asked_so (call.State op)) old was gave new now basis (call.State op) → StandsFor site now versions basis → RunsTo (turns_by session (asked_so (call.State op)) gave basis) (left_by site versions basis)
  by_open op true basis opens is stands =
      let it = is.1 opens in openly_runs op basis it.plane it.openly
  by_open op false basis closed is stands = acted_runs (call.State op) basis closed (is.0 closed) stands

-- ---- an operation on the policy

module _ (session : ℕ) (versions : VersionRows) (site : Site) (token : Option (List ℕ)) (asked : PolicyOp) (t : ℕ) (gave : Served) (ledger : LedgerRows) (now : Visit) (state : IsState ledger.state) where
  abbrev RunsOn : Basis → Type 0
  RunsOn basis =
      MayRun session (sheet versions ledger) (turns_by session (record { token = token; call = call.Policy asked; at = t }) gave basis) (sheet (left_by site versions basis) ledger)

  given_runs : (grounds : Grounds) → IsGiven site token asked gave now grounds → StandsFor site now versions (On grounds) → RunsOn (On grounds)
  given_runs (Under m) is stands =
      on_policy session (sheet versions ledger) (sheet versions ledger) m.version token asked gave
      (readings_are_steps session versions site m ledger token asked gave now state stands is)
  given_runs (Made r) is stands =
      on_policy session (sheet versions ledger) (sheet (with_version versions (policy_of site r.mark)) ledger) r.base.version token asked gave
      (changes_are_steps session versions site r ledger token asked gave now state stands is)
  given_runs (Overtaken m) is stands =
      on_policy session (sheet versions ledger) (sheet versions ledger) m.version token asked gave
      (overtaken_is session versions site m ledger token now state stands.0 stands.1 asked gave is)
  given_runs (Spent m pushed) is stands = inl (refl, refl)

  administered_runs : (was : Visit) (basis : Basis) → IsAdministered site token asked was gave now basis → StandsFor site now versions basis → RunsOn basis
  administered_runs was Openly is stands = absurd is
  administered_runs was Missed is stands = inl (refl, refl)
  administered_runs was (On grounds) is stands = given_runs grounds is.given stands

-- ---- a call

module _ (session : ℕ) (versions : VersionRows) (old new : SoloRows) (token : Option (List ℕ)) (t : ℕ) (gave : Served) (basis : Basis) (state : IsState old.plane.ledger.state) (left : IsState new.plane.ledger.state) where
  pub call_runs : (it : Call) → IsDecidedBy old (record { token = token; call = it; at = t }) gave new basis it → StandsFor old.site new.session versions basis → MayRun session (sheet versions old.plane.ledger) (turns_by session (record { token = token; call = it; at = t }) gave basis) (sheet (left_by old.site versions basis) new.plane.ledger)
  call_runs (call.State op) is stands =
      by_open session versions old.site token t gave old.plane new.plane old.session new.session state left op (is_open (endpoint_of op)) basis refl is stands
  call_runs (call.Entries window) is stands =
      acted_runs session versions old.site token t gave old.plane new.plane old.session new.session state left (call.Entries window) basis tt is stands
  call_runs (call.Policy asked) is stands =
      subst (λ (l : LedgerRows). MayRun session (sheet versions old.plane.ledger) (turns_by session (record { token = token; call = call.Policy asked; at = t }) gave basis) (sheet (left_by old.site versions basis) l)) (sym (ap (λ (p : PlaneRows). p.ledger) is.1))
      (administered_runs session versions old.site token asked t gave old.plane.ledger new.session state old.session basis is.0 stands)

-- ---- the versions

-- none is lost
pub no_fewer : (site : Site) (versions : VersionRows) (basis : Basis) → current versions ≤ current (left_by site versions basis)
no_fewer site versions Openly = omega arith
no_fewer site versions Missed = omega arith
no_fewer site versions (On (Under m)) = omega arith
no_fewer site versions (On (Made r)) = omega (arith, length-append versions.earlier (versions.latest ∷ []))
no_fewer site versions (On (Overtaken m)) = omega arith
no_fewer site versions (On (Spent m pushed)) = omega arith

pub one_more : (versions : VersionRows) (policy : PolicyRows) → current versions ≤ current (with_version versions policy)
one_more versions policy = omega (arith, length-append versions.earlier (versions.latest ∷ []))
