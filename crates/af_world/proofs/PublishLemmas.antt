-- The answer to what is asked of the policy, and to a change that is handed in.
use Rattle.std.proofs.Common.{◌≡◌, ◌∙◌, ◌⊎◌, inl, inr, refl, sym, ap, subst, ℕ, ◌+◌, List, [], ◌∷◌, ◌++◌, Bool, true, false, ◌==◌, length, nat_lt}
use Rattle.std.specs.Prelude.{⊤, Option, Some, None, Result, Ok, Err, nat_le, slice_get, unwrap_or, if◌then◌else◌}
use Rattle.std.proofs.lemmas.Bool.Decides.{Decides-eqb}
use Rattle.af_policy.specs.declared.ask.Ask.{Ask}
use Rattle.af_policy.specs.declared.me.Me.{Me}
use Rattle.af_policy.specs.declared.me_fault.MeFault.{MeFault}
use Rattle.af_policy.specs.declared.policy_read.PolicyRead.{PolicyRead}
use Rattle.af_policy.specs.declared.policy_reply.PolicyReply.{PolicyReply}
use Rattle.af_policy.specs.declared.read_fault.ReadFault.{ReadFault}
use Rattle.af_policy.specs.declared.refusal.Refusal.{Refusal}
use Rattle.af_policy.specs.declared.refusal.Refusal.TheVariants.{Full, Moved}
use Rattle.af_policy.specs.Changes.{kind_of, needs_of}
use Rattle.af_policy.specs.Reads.{me_of, read_of}
use Rattle.af_policy.specs.Rows.{PolicyRows}
use Rattle.af_policy.specs.Versions.{VersionRows, decided, within}
use Rattle.af_ops.specs.declared.call.Call.TheVariants as call
use Rattle.af_ops.specs.declared.policy_op.PolicyOp.{PolicyOp}
use Rattle.af_ops.specs.declared.policy_op.PolicyOp.TheVariants as asks
use Rattle.af_ops.specs.declared.shown_answer.Shown.{Shown}
use Rattle.af_ops.specs.declared.status.Status.TheVariants.{Unauthorized, Forbidden, NoContent}
use Rattle.af_ops.specs.declared.status.Status.TheVariants as status
use Rattle.af_ops.specs.PolicyFaults.{submit_problem}
use Rattle.af_ops.specs.PolicyServed.{told_of, versions_after}
use Rattle.af_ops.specs.PolicyVerdicts.{PolicyVerdict, Publishes, Refuses, Tells, asked_text, change_verdict, me_verdict, policy_verdict, read_verdict}
use Rattle.af_world.specs.declared.step.Step.TheVariants as step
use Rattle.af_world.specs.Laws.{IsUnder, LeavesAll, PublishedRightly, PublishesAreGranted}
use Rattle.af_world.specs.Moving.{Move, stays}
use Rattle.af_world.specs.Publishing.{handed_in, lost, made, meeting, overtaken, publishing}
use Rattle.af_world.specs.Steps.{Moves}
use Rattle.af_world.specs.Worlds.{World, has_session, last_version, policy_at, seen_by}
use Rattle.af_world.proofs.ActLemmas.{ActSays, IsDecided, IsRefused}
use Rattle.af_world.proofs.RuleLemmas.{none_lacked}
use Rattle.af_world.proofs.SubmitLemmas.{IsMade, change_judged, decided_made, fault_told, me_judged, policy_reply, read_judged}
use Rattle.af_world.proofs.ToldLemmas.{IsFault, IsOther, Names, names_problem, policy_fault, policy_problem, submit_status}
use Rattle.af_world.proofs.WorldLemmas.{either}

pub latest_got : {X : Type 0} → (xs : List X) (x : X) → slice_get (xs ++ x ∷ []) (length xs) ≡ Some x
latest_got [] x = refl
latest_got (y ∷ xs) x = latest_got xs x

-- a refusal leaves the versions
refused_kept : (version : ℕ) (versions : VersionRows) (shown : Shown) (it : PolicyVerdict) → told_of version it ≡ Some shown → IsRefused shown → versions_after it versions ≡ versions
refused_kept version versions shown (Refuses problem) e refused = refl
refused_kept version versions shown (Tells reply) e refused = refl
refused_kept version versions shown (Publishes reply policy) e (inl unknown) = absurd ((policy_reply (version + 1) shown reply e).0 unknown)
refused_kept version versions shown (Publishes reply policy) e (inr forbidden) = absurd ((policy_reply (version + 1) shown reply e).1 forbidden)

module _ (w : World) (shown : Shown) where
  -- the latest version
  pub is_latest : shown.version ≡ Some (last_version w) → IsUnder w shown w.versions.latest
  is_latest names = record { version = last_version w; names = names; named = latest_got w.versions.earlier w.versions.latest }

  made_leaves : (s : ℕ) (it : PolicyVerdict) → told_of (last_version w) it ≡ Some shown → IsRefused shown → LeavesAll w (made w s it).next
  made_leaves s it e refused = record { versions = refused_kept (last_version w) w.versions shown it e refused; state = refl; audit = refl }

-- ---- who am I, roles and users

-- a verdict that publishes nothing
abbrev NoPublish : PolicyVerdict → Type 0
NoPublish (Refuses problem) = ⊤
NoPublish (Tells reply) = ⊤
NoPublish (Publishes reply policy) = ⊥

me_quiet : (version : ℕ) (comes : Result Me MeFault) → NoPublish (me_verdict version comes)
me_quiet version (Ok me) = tt
me_quiet version (Err fault) = tt

read_quiet : (asked : PolicyRead) (comes : Result PolicyReply ReadFault) → NoPublish (read_verdict asked comes)
read_quiet asked (Ok reply) = tt
read_quiet asked (Err fault) = tt

module _ (w : World) (s : ℕ) (token : Option (List ℕ)) (shown : Shown) where
  abbrev MeSays : PolicyOp → Move → Type 0
  MeSays asked m = m.answer ≡ Some shown → ActSays w (record { token = token; call = call.Policy asked }) shown m

  told_names : (it : PolicyVerdict) → NoPublish it → told_of (last_version w) it ≡ Some shown → shown.version ≡ Some (last_version w)
  told_names (Refuses problem) none e = subst (Names (last_version w)) e (names_problem (last_version w) problem)
  told_names (Tells reply) none e = sym (ap (λ (o : Option Shown). (unwrap_or o shown).version) e)
  told_names (Publishes reply policy) none e = absurd none

  meeting_says : (asked : PolicyOp) → MeSays asked (meeting w s token asked)
  meeting_says asks.Me =
      either (MeSays asks.Me) (has_session w s) (made w s (policy_verdict w.versions token asks.Me)) (stays w)
      (λ _ e. record {
        decided = record {
          policy = w.versions.latest;
          under = is_latest w shown (told_names (policy_verdict w.versions token asks.Me) (me_quiet (last_version w) (me_of w.versions.latest token)) e);
          judged = me_judged w.versions.latest token (last_version w) shown e;
        };
        leaves = made_leaves w shown s (policy_verdict w.versions token asks.Me) e;
      })
      (λ _ e. absurd (cc))
  meeting_says (asks.Read asked) =
      either (MeSays (asks.Read asked)) (has_session w s) (made w s (policy_verdict w.versions token (asks.Read asked))) (stays w)
      (λ _ e. record {
        decided = record {
          policy = w.versions.latest;
          under = is_latest w shown (told_names (policy_verdict w.versions token (asks.Read asked)) (read_quiet asked (read_of w.versions.latest token asked)) e);
          judged = read_judged w.versions.latest token (last_version w) shown asked e;
        };
        leaves = made_leaves w shown s (policy_verdict w.versions token (asks.Read asked)) e;
      })
      (λ _ e. absurd (cc))
  meeting_says (asks.Change ask) = λ e. absurd (cc)
  meeting_says (asks.Unread kind) = λ e. absurd (cc)

  pub me_says : (asked : PolicyOp) (m : Move) → Moves w (step.Me s token asked) m → MeSays asked m
  me_says asked m is = subst (MeSays asked) (sym is) (meeting_says asked)

-- ---- changes

-- 200 or 204
abbrev IsDone : Shown → Type 0
IsDone shown = (shown.status ≡ status.Ok) ⊎ (shown.status ≡ NoContent)

fault_done : {P : Type 0} (shown : Shown) → IsFault shown.status → IsDone shown → P
fault_done shown is (inl ok) = absurd (is.0 ok)
fault_done shown is (inr none) = absurd (is.1 none)

other_refused : {P : Type 0} (shown : Shown) → IsOther shown.status → IsRefused shown → P
other_refused shown is (inl unknown) = absurd (is.0 unknown)
other_refused shown is (inr forbidden) = absurd (is.1 forbidden)

-- what the answer to a change that is handed in says
pub record PublishSays (w : World) (at : ℕ) (token : Option (List ℕ)) (asked : PolicyOp) (shown : Shown) (m : Move) : Type 0 where
  pub judged : IsDecided w (record { token = token; call = call.Policy asked }) shown ⊎ IsOther shown.status
  pub leaves : IsRefused shown → LeavesAll w m.next
  pub done : IsDone shown → PublishedRightly w at token asked shown m.next

module _ (w : World) (s at : ℕ) (token : Option (List ℕ)) (shown : Shown) where
  abbrev HandsIn : PolicyOp → Move → Type 0
  HandsIn asked m = m.answer ≡ Some shown → PublishSays w at token asked shown m

  module _ (ask : Ask) where
    -- told as a fault that decides nothing of who asks
    quiet_says : (version : ℕ) (fault : Refusal) (m : Move) → IsOther shown.status → LeavesAll w m.next → told_of version (Refuses (submit_problem ask fault)) ≡ Some shown → PublishSays w at token (asks.Change ask) shown m
    quiet_says version fault m other leaves e = record {
      judged = inr other;
      leaves = λ _. leaves;
      done = λ done. fault_done shown (policy_fault version shown (submit_problem ask fault) (submit_status ask fault) e) done;
    }

    overtaken_says : HandsIn (asks.Change ask) (overtaken w s ask)
    overtaken_says e =
        quiet_says (last_version w) (Moved (last_version w)) (overtaken w s ask)
        (policy_problem (last_version w) shown (submit_problem ask (Moved (last_version w))) (λ c. cc, λ c. cc) e)
        (record { versions = refl; state = refl; audit = refl }) e

    -- a fault under a version
    fault_says : (policy : PolicyRows) (version : ℕ) → policy_at w version ≡ Some policy → (fault : Refusal) → decided policy token ask ≡ Err fault → (m : Move) → LeavesAll w m.next → told_of version (Refuses (submit_problem ask fault)) ≡ Some shown → PublishSays w at token (asks.Change ask) shown m
    fault_says policy version under fault is m leaves e = record {
      judged = inl (record {
        policy = policy;
        under = record { version = version; names = subst (Names version) e (names_problem version (submit_problem ask fault)); named = under };
        judged = change_judged policy token version shown ask (subst (λ (comes : Result PolicyRows Refusal). fault_told version ask comes ≡ Some shown) (sym is) e);
      });
      leaves = λ _. leaves;
      done = λ done. fault_done shown (policy_fault version shown (submit_problem ask fault) (submit_status ask fault) e) done;
    }

    lost_says : (policy : PolicyRows) → policy_at w at ≡ Some policy → (comes : Result PolicyRows Refusal) → decided policy token ask ≡ comes → HandsIn (asks.Change ask) (lost w s at ask comes)
    lost_says policy under (Ok later) is e = overtaken_says e
    lost_says policy under (Err fault) is e =
        fault_says policy at under fault is (lost w s at ask (Err fault)) (record { versions = refl; state = refl; audit = refl }) e

    module _ (last : at ≡ last_version w) where
      published_says : (later : PolicyRows) → IsMade w.versions.latest token ask later → HandsIn (asks.Change ask) (made w s (Publishes (asked_text (last_version w + 1) later ask) later))
      published_says later is e =
          let other : IsOther shown.status = policy_reply (last_version w + 1) shown (asked_text (last_version w + 1) later ask) e in
          record {
            judged = inr other;
            leaves = λ refused. other_refused shown other refused;
            done = λ _. record {
              author = is.asks.user;
              change = is.change;
              later = later;
              handed = ap (λ (it : Ask). asks.Change it) is.is_change;
              last = last;
              bearer = is.asks.bearer;
              granted = none_lacked w.versions.latest is.asks.user None [] (needs_of (kind_of is.change)) is.asks.lacks;
              makes = is.makes;
              version = sym (ap (λ (o : Option Shown). (unwrap_or o shown).version) e) ∙ ap (λ (v : ℕ). Some (v + 1)) (sym last);
              versions = refl;
              ledger = refl;
            };
          }

      room_says : (later : PolicyRows) → IsMade w.versions.latest token ask later → (full : Bool) → HandsIn (asks.Change ask) (made w s (change_verdict (last_version w) ask (if full then Err Full else Ok later)))
      room_says later is true e =
          quiet_says (last_version w) Full (made w s (change_verdict (last_version w) ask (Err Full)))
          (policy_problem (last_version w) shown (submit_problem ask Full) (λ c. cc, λ c. cc) e) (record { versions = refl; state = refl; audit = refl }) e
      room_says later is false e = published_says later is e

      last_says : (comes : Result PolicyRows Refusal) → decided w.versions.latest token ask ≡ comes → HandsIn (asks.Change ask) (made w s (change_verdict (last_version w) ask (within w.versions comes)))
      last_says (Err fault) is e =
          fault_says w.versions.latest (last_version w) (latest_got w.versions.earlier w.versions.latest) fault is (made w s (change_verdict (last_version w) ask (Err fault)))
          (record { versions = refl; state = refl; audit = refl }) e
      last_says (Ok later) is e =
          room_says later (decided_made w.versions.latest token later ask is) (nat_le w.versions.last (length w.versions.earlier)) e

    handed_says : (policy : Option PolicyRows) → policy_at w at ≡ policy → HandsIn (asks.Change ask) (handed_in w s at token ask policy)
    handed_says None under = λ e. absurd (cc)
    handed_says (Some policy) under =
        either (HandsIn (asks.Change ask)) (nat_lt at (seen_by w s).version) (overtaken w s ask)
        (if at == last_version w then made w s (policy_verdict w.versions token (asks.Change ask)) else lost w s at ask (decided policy token ask))
        (λ _. overtaken_says)
        (λ _. either (HandsIn (asks.Change ask)) (at == last_version w) (made w s (policy_verdict w.versions token (asks.Change ask))) (lost w s at ask (decided policy token ask))
        (λ same. last_says ((Decides-eqb at (last_version w)).0 same) (decided w.versions.latest token ask) refl)
        (λ _. lost_says policy under (decided policy token ask) refl))

  publishing_says : (asked : PolicyOp) → HandsIn asked (publishing w s at token asked)
  publishing_says (asks.Change ask) =
      either (HandsIn (asks.Change ask)) (has_session w s) (handed_in w s at token ask (policy_at w at)) (stays w)
      (λ _. handed_says ask (policy_at w at) refl)
      (λ _ e. absurd (cc))
  publishing_says asks.Me = λ e. absurd (cc)
  publishing_says (asks.Read asked) = λ e. absurd (cc)
  publishing_says (asks.Unread kind) = λ e. absurd (cc)

  pub publish_says : (asked : PolicyOp) (m : Move) → Moves w (step.Publish s at token asked) m → HandsIn asked m
  publish_says asked m is = subst (HandsIn asked) (sym is) (publishing_says asked)

pub publishes_granted : PublishesAreGranted
publishes_granted w s at token asked m shown is e done = (publish_says w s at token shown asked m is e).done done
