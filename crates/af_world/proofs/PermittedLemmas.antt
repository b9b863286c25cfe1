-- A change that is refused for another reason than who asks was permitted to its author, or overtaken.
use Rattle.std.proofs.Common.{◌≡◌, ◌⊎◌, inl, inr, refl, sym, ap, subst, ℕ, ◌≤◌, ◌+◌, List, [], Bool, true, false, ◌==◌, length, nat_lt, arith}
use Rattle.std.specs.Prelude.{Option, Some, None, Result, Ok, Err, nat_le, unwrap_or, if◌then◌else◌}
use Rattle.std.proofs.lemmas.Bool.Decides.{Decides-ltb}
use Rattle.af_policy.specs.declared.ask.Ask.{Ask}
use Rattle.af_policy.specs.declared.refusal.Refusal.{Refusal}
use Rattle.af_policy.specs.declared.refusal.Refusal.TheVariants.{Full}
use Rattle.af_policy.specs.Changes.{needs_of}
use Rattle.af_policy.specs.Rows.{PolicyRows}
use Rattle.af_policy.specs.Versions.{asked_kind, decided, within}
use Rattle.af_ops.specs.declared.policy_op.PolicyOp.TheVariants as asks
use Rattle.af_ops.specs.declared.shown_answer.Shown.{Shown}
use Rattle.af_ops.specs.declared.status.Status.TheVariants.{Forbidden, Unauthorized}
use Rattle.af_ops.specs.PolicyFaults.{submit_problem}
use Rattle.af_ops.specs.PolicyServed.{told_of}
use Rattle.af_ops.specs.PolicyVerdicts.{Refuses, asked_text, change_verdict, policy_verdict}
use Rattle.af_ops.specs.Served.{status_of}
use Rattle.af_world.specs.Moving.{Move, stays}
use Rattle.af_world.specs.Permitted.{IsOvertaken, IsPermitted, IsPermittedThere, IsRefusal, RefusedChangesArePermitted}
use Rattle.af_world.specs.Publishing.{handed_in, lost, made, overtaken, publishing}
use Rattle.af_world.specs.Worlds.{World, has_session, last_version, policy_at, seen_by}
use Rattle.af_world.proofs.JudgedLemmas.{Granted, IsJudged, Lacking, Nobody}
use Rattle.af_world.proofs.PublishLemmas.{latest_got}
use Rattle.af_world.proofs.RuleLemmas.{none_lacked}
use Rattle.af_world.proofs.SubmitLemmas.{change_judged, decided_made, fault_told}
use Rattle.af_world.proofs.ToldLemmas.{Names, names_problem}
use Rattle.af_world.proofs.VerdictLemmas.{Asks}
use Rattle.af_world.proofs.WorldLemmas.{either}

-- ---- statuses

not_unauthorized : IsRefusal Unauthorized → ⊥
not_unauthorized (inl is) = cc is
not_unauthorized (inr (inl is)) = cc is
not_unauthorized (inr (inr (inl is))) = cc is
not_unauthorized (inr (inr (inr is))) = cc is

not_forbidden : IsRefusal Forbidden → ⊥
not_forbidden (inl is) = cc is
not_forbidden (inr (inl is)) = cc is
not_forbidden (inr (inr (inl is))) = cc is
not_forbidden (inr (inr (inr is))) = cc is

not_done : (reply : Option (List ℕ)) → IsRefusal (status_of reply) → ⊥
not_done None (inl is) = cc is
not_done None (inr (inl is)) = cc is
not_done None (inr (inr (inl is))) = cc is
not_done None (inr (inr (inr is))) = cc is
not_done (Some text) (inl is) = cc is
not_done (Some text) (inr (inl is)) = cc is
not_done (Some text) (inr (inr (inl is))) = cc is
not_done (Some text) (inr (inr (inr is))) = cc is

-- ---- who asked

-- a change that is made lacked nothing
made_asks : (policy : PolicyRows) (token : Option (List ℕ)) (ask : Ask) (later : PolicyRows) → decided policy token ask ≡ Ok later → Asks policy token None [] (needs_of (asked_kind ask)) None
made_asks policy token ask later is =
    let made = decided_made policy token later ask is in
    subst (λ (it : Ask). Asks policy token None [] (needs_of (asked_kind it)) None) (sym made.is_change) made.asks

module _ (w : World) (s at : ℕ) (token : Option (List ℕ)) (ask : Ask) (shown : Shown) (refused : IsRefusal shown.status) where
  abbrev Says : Type 0
  Says = IsPermittedThere w token ask shown ⊎ IsOvertaken w s at token ask shown

  abbrev SaysOf : Move → Type 0
  SaysOf m = m.answer ≡ Some shown → Says

  permitted_by : (version : ℕ) (policy : PolicyRows) → policy_at w version ≡ Some policy → Asks policy token None [] (needs_of (asked_kind ask)) None → IsPermitted w version token ask
  permitted_by version policy under it = record {
    policy = policy;
    author = it.user;
    under = under;
    bearer = it.bearer;
    granted = none_lacked policy it.user None [] (needs_of (asked_kind ask)) it.lacks;
  }

  there : (version : ℕ) (fault : Refusal) → IsPermitted w version token ask → told_of version (Refuses (submit_problem ask fault)) ≡ Some shown → Says
  there version fault it e =
      inl (record { version = version; names = subst (Names version) e (names_problem version (submit_problem ask fault)); permitted = it })

  -- decided under a version
  by_judged : (version : ℕ) (policy : PolicyRows) (fault : Refusal) → policy_at w version ≡ Some policy → told_of version (Refuses (submit_problem ask fault)) ≡ Some shown → IsJudged policy token None [] (needs_of (asked_kind ask)) shown → Says
  by_judged version policy fault under e (Nobody is nobody) = absurd (not_unauthorized (subst IsRefusal is refused))
  by_judged version policy fault under e (Lacking need is text asks) = absurd (not_forbidden (subst IsRefusal is refused))
  by_judged version policy fault under e (Granted other asks) = there version fault (permitted_by version policy under asks) e

  fault_says : (version : ℕ) (policy : PolicyRows) (fault : Refusal) → policy_at w version ≡ Some policy → decided policy token ask ≡ Err fault → told_of version (Refuses (submit_problem ask fault)) ≡ Some shown → Says
  fault_says version policy fault under is e =
      by_judged version policy fault under e
      (change_judged policy token version shown ask (subst (λ (comes : Result PolicyRows Refusal). fault_told version ask comes ≡ Some shown) (sym is) e))

  -- overtaken by another version
  overtaken_says : ((seen_by w s).version ≤ at → IsPermitted w at token ask) → SaysOf (overtaken w s ask)
  overtaken_says permitted e =
      let same = sym (ap (λ (o : Option Shown). unwrap_or o shown) e) in
      inr (record {
        conflict = ap (λ (it : Shown). it.status) same;
        names = ap (λ (it : Shown). it.version) same;
        body = ap (λ (it : Shown). it.body) same;
        permitted = permitted;
      })

  lost_says : (policy : PolicyRows) → policy_at w at ≡ Some policy → (comes : Result PolicyRows Refusal) → decided policy token ask ≡ comes → SaysOf (lost w s at ask comes)
  lost_says policy under (Ok later) is e =
      overtaken_says (λ _. permitted_by at policy under (made_asks policy token ask later is)) e
  lost_says policy under (Err fault) is e = fault_says at policy fault under is e

  -- decided under the latest version
  room_says : (later : PolicyRows) → decided w.versions.latest token ask ≡ Ok later → (full : Bool) → SaysOf (made w s (change_verdict (last_version w) ask (if full then Err Full else Ok later)))
  room_says later is true e =
      there (last_version w) Full (permitted_by (last_version w) w.versions.latest (latest_got w.versions.earlier w.versions.latest) (made_asks w.versions.latest token ask later is)) e
  room_says later is false e =
      let same = sym (ap (λ (o : Option Shown). unwrap_or o shown) e) in
      absurd (not_done (asked_text (last_version w + 1) later ask) (subst IsRefusal (ap (λ (it : Shown). it.status) same) refused))

  last_says : (comes : Result PolicyRows Refusal) → decided w.versions.latest token ask ≡ comes → SaysOf (made w s (change_verdict (last_version w) ask (within w.versions comes)))
  last_says (Err fault) is e =
      fault_says (last_version w) w.versions.latest fault (latest_got w.versions.earlier w.versions.latest) is e
  last_says (Ok later) is e = room_says later is (nat_le w.versions.last (length w.versions.earlier)) e

  -- no later version is seen than one that is
  not_later : nat_lt at (seen_by w s).version ≡ true → (seen_by w s).version ≤ at → IsPermitted w at token ask
  not_later later le = (let lt = (Decides-ltb at (seen_by w s).version).0 later in absurd (omega (arith, lt, le)))

  handed_says : (policy : Option PolicyRows) → policy_at w at ≡ policy → SaysOf (handed_in w s at token ask policy)
  handed_says None under = λ e. absurd (cc)
  handed_says (Some policy) under =
      either SaysOf (nat_lt at (seen_by w s).version) (overtaken w s ask)
      (if at == last_version w then made w s (policy_verdict w.versions token (asks.Change ask)) else lost w s at ask (decided policy token ask))
      (λ later. overtaken_says (not_later later))
      (λ _. either SaysOf (at == last_version w) (made w s (policy_verdict w.versions token (asks.Change ask))) (lost w s at ask (decided policy token ask))
      (λ _. last_says (decided w.versions.latest token ask) refl)
      (λ _. lost_says policy under (decided policy token ask) refl))

  publishing_says : SaysOf (publishing w s at token (asks.Change ask))
  publishing_says =
      either SaysOf (has_session w s) (handed_in w s at token ask (policy_at w at)) (stays w)
      (λ _. handed_says (policy_at w at) refl)
      (λ _ e. absurd (cc))

pub refused_permitted : RefusedChangesArePermitted
refused_permitted w s at token ask m shown is e refused =
    subst (SaysOf w s at token ask shown refused) (sym is) (publishing_says w s at token ask shown refused) e
