-- What is asked of the policy keeps and tells.
use Rattle.std.proofs.Common.{◌≡◌, refl, sym, ap, subst, ℕ, zero, suc, ◌+◌, ◌≤◌, ◌<◌, List, [], ◌∷◌, ◌++◌, Bool, true, false, ◌==◌, length, length-append, nat_lt, arith}
use Rattle.std.specs.Prelude.{⊤, Option, Some, None, Result, Ok, Err, nat_le, slice_get, if◌then◌else◌}
use Rattle.std.proofs.lemmas.Bool.Decides.{Decides-ltb, not_from_Decides}
use Rattle.std.proofs.lemmas.Option.{slice_get_within}
use Rattle.af_policy.specs.declared.ask.Ask.{Ask}
use Rattle.af_policy.specs.declared.me.Me.{Me}
use Rattle.af_policy.specs.declared.me_fault.MeFault.{MeFault}
use Rattle.af_policy.specs.declared.policy_read.PolicyRead.{PolicyRead}
use Rattle.af_policy.specs.declared.policy_reply.PolicyReply.{PolicyReply}
use Rattle.af_policy.specs.declared.read_fault.ReadFault.{ReadFault}
use Rattle.af_policy.specs.declared.refusal.Refusal.{Refusal}
use Rattle.af_policy.specs.declared.refusal.Refusal.TheVariants.{Full, Moved}
use Rattle.af_policy.specs.Reads.{me_of, read_of}
use Rattle.af_policy.specs.Rows.{PolicyRows}
use Rattle.af_policy.specs.Versions.{VersionRows, all_versions, decided, with_version, within}
use Rattle.af_sched.specs.State.{StateRows}
use Rattle.af_ops.specs.declared.policy_op.PolicyOp.{PolicyOp}
use Rattle.af_ops.specs.declared.policy_op.PolicyOp.TheVariants as asks
use Rattle.af_ops.specs.PolicyFaults.{submit_problem}
use Rattle.af_ops.specs.PolicyServed.{told_of}
use Rattle.af_ops.specs.PolicyVerdicts.{PolicyVerdict, Publishes, Refuses, Tells, change_verdict, me_verdict, policy_verdict, read_verdict}
use Rattle.af_world.specs.declared.step.Step.{Step}
use Rattle.af_world.specs.declared.step.Step.TheVariants as step
use Rattle.af_world.specs.Asked.{acts}
use Rattle.af_world.specs.Laws.{IsMadeOf}
use Rattle.af_world.specs.Moving.{stays}
use Rattle.af_world.specs.Publishing.{handed_in, lost, made, meeting, overtaken, publishing, with_made}
use Rattle.af_world.specs.Runs.{session_of}
use Rattle.af_world.specs.Worlds.{World, has_session, last_version, policy_at, seen_by}
use Rattle.af_world.proofs.GrantedLemmas.{follow_more, granted_more}
use Rattle.af_world.proofs.SeenLemmas.{seen}
use Rattle.af_world.proofs.SightLemmas.{goes_told}
use Rattle.af_world.proofs.SubmitLemmas.{decided_made, follows_made}
use Rattle.af_world.proofs.ToldLemmas.{names_problem}
use Rattle.af_world.proofs.WorldLemmas.{Goes, IsWorld, either, goes_nowhere}

-- ---- one version more

slice_get_last : {X : Type 0} → (xs : List X) (x y : X) (k : ℕ) → k + 1 ≡ length (xs ++ x ∷ []) → slice_get (xs ++ x ∷ []) k ≡ Some y → x ≡ y
slice_get_last [] x y zero at got = cc
slice_get_last [] x y (suc k) at got = absurd (omega (arith, at))
slice_get_last (z ∷ xs) x y zero at got = (let more = length-append xs (x ∷ []) in absurd (omega (arith, at, more)))
slice_get_last (z ∷ xs) x y (suc k) at got = slice_get_last xs x y k (omega (arith, at)) got

-- a verdict that publishes makes a policy that follows the latest
abbrev pub MakesNext : PolicyRows → PolicyVerdict → Type 0
MakesNext latest (Refuses problem) = ⊤
MakesNext latest (Tells reply) = ⊤
MakesNext latest (Publishes reply policy) = IsMadeOf latest policy

-- one more version leaves all else
kept_more : (opening : StateRows) (w : World) (policy : PolicyRows) → IsWorld opening w → IsMadeOf w.versions.latest policy → IsWorld opening (record w { versions = with_version w.versions policy })
kept_more opening w policy kept next =
    let more = length-append w.versions.earlier (w.versions.latest ∷ []) in
    record {
      opens = kept.opens;
      plane = (let p = kept.plane in omega arith);
      sights = λ t. (let p = kept.sights t in omega arith);
      held = kept.held;
      ledger = kept.ledger;
      state = kept.state;
      granted = granted_more (all_versions w.versions) (policy ∷ []) w.ledger.audit.entries w.ledger.opening w.ledger.state kept.granted;
      follow = follow_more (all_versions w.versions) policy kept.follow
          (λ before k at got. subst (λ (p : PolicyRows). IsMadeOf p policy) (slice_get_last w.versions.earlier w.versions.latest before k at got) next);
    }

module _ (opening : StateRows) (w : World) (s : ℕ) (x : Step) (of : session_of x ≡ Some s) (quiet : acts x ≡ false) (kept : IsWorld opening w) (lt : s < length w.sessions) where
  -- decided under the latest version
  goes_made : (it : PolicyVerdict) → MakesNext w.versions.latest it → Goes opening w x (made w s it)
  goes_made (Refuses problem) next =
      goes_told opening w s (last_version w) x (told_of (last_version w) (Refuses problem)) of quiet (names_problem (last_version w) problem) kept lt (omega arith) (kept.sights s)
  goes_made (Tells reply) next =
      goes_told opening w s (last_version w) x (told_of (last_version w) (Tells reply)) of quiet refl kept lt (omega arith) (kept.sights s)
  goes_made (Publishes reply policy) next =
      let more = length-append w.versions.earlier (w.versions.latest ∷ []) in
      let sight = kept.sights s in
      let later : World = with_made w (Publishes reply policy) in
      let last : last_version w + 1 ≡ last_version later = sym more in
      let goes = goes_told opening later s (last_version later) x (told_of (last_version w) (Publishes reply policy)) of quiet (ap (λ (v : ℕ). Some v) last) (kept_more opening w policy kept next) lt (omega arith) (omega arith) in
      record {
        kept = goes.kept;
        climbs = goes.climbs;
        as_seen = λ t shown e here.
            let told = goes.as_seen t shown e here in
            record { version = told.version; names = told.names; later = told.later; seen = told.seen; looked = told.looked };
      }

  goes_overtaken : (ask : Ask) → Goes opening w x (overtaken w s ask)
  goes_overtaken ask =
      goes_told opening w s (last_version w) x (told_of (last_version w) (Refuses (submit_problem ask (Moved (last_version w))))) of quiet (names_problem (last_version w) (submit_problem ask (Moved (last_version w)))) kept lt (omega arith) (kept.sights s)

  goes_lost : (at : ℕ) (ask : Ask) → at ≤ last_version w → seen w.sessions s ≤ at → (comes : Result PolicyRows Refusal) → Goes opening w x (lost w s at ask comes)
  goes_lost at ask below le (Ok later) = goes_overtaken ask
  goes_lost at ask below le (Err fault) =
      goes_told opening w s at x (told_of at (Refuses (submit_problem ask fault))) of quiet (names_problem at (submit_problem ask fault)) kept lt below le

-- ---- who am I, roles and users

me_next : (latest : PolicyRows) (version : ℕ) (comes : Result Me MeFault) → MakesNext latest (me_verdict version comes)
me_next latest version (Ok me) = tt
me_next latest version (Err fault) = tt

read_next : (latest : PolicyRows) (asked : PolicyRead) (comes : Result PolicyReply ReadFault) → MakesNext latest (read_verdict asked comes)
read_next latest asked (Ok reply) = tt
read_next latest asked (Err fault) = tt

pub goes_meeting : (opening : StateRows) (w : World) (s : ℕ) (token : Option (List ℕ)) (asked : PolicyOp) → IsWorld opening w → Goes opening w (step.Me s token asked) (meeting w s token asked)
goes_meeting opening w s token asks.Me kept =
    either (Goes opening w (step.Me s token asks.Me)) (has_session w s) (made w s (policy_verdict w.versions token asks.Me)) (stays w)
    (λ there. goes_made opening w s (step.Me s token asks.Me) refl refl kept ((Decides-ltb s (length w.sessions)).0 there) (policy_verdict w.versions token asks.Me) (me_next w.versions.latest (last_version w) (me_of w.versions.latest token)))
    (λ _. goes_nowhere opening w (step.Me s token asks.Me) kept)
goes_meeting opening w s token (asks.Read asked) kept =
    either (Goes opening w (step.Me s token (asks.Read asked))) (has_session w s) (made w s (policy_verdict w.versions token (asks.Read asked))) (stays w)
    (λ there. goes_made opening w s (step.Me s token (asks.Read asked)) refl refl kept ((Decides-ltb s (length w.sessions)).0 there) (policy_verdict w.versions token (asks.Read asked)) (read_next w.versions.latest asked (read_of w.versions.latest token asked)))
    (λ _. goes_nowhere opening w (step.Me s token (asks.Read asked)) kept)
goes_meeting opening w s token (asks.Change ask) kept = goes_nowhere opening w (step.Me s token (asks.Change ask)) kept
goes_meeting opening w s token (asks.Unread kind) kept = goes_nowhere opening w (step.Me s token (asks.Unread kind)) kept

-- ---- changes

room_next : (versions : VersionRows) (version : ℕ) (ask : Ask) (later : PolicyRows) → IsMadeOf versions.latest later → (full : Bool) → MakesNext versions.latest (change_verdict version ask (if full then Err Full else Ok later))
room_next versions version ask later next true = tt
room_next versions version ask later next false = next

change_next : (versions : VersionRows) (version : ℕ) (token : Option (List ℕ)) (ask : Ask) (comes : Result PolicyRows Refusal) → decided versions.latest token ask ≡ comes → MakesNext versions.latest (change_verdict version ask (within versions comes))
change_next versions version token ask (Err fault) is = tt
change_next versions version token ask (Ok later) is =
    room_next versions version ask later (follows_made versions.latest token ask later (decided_made versions.latest token later ask is)) (nat_le versions.last (length versions.earlier))

module _ (opening : StateRows) (w : World) (s at : ℕ) (token : Option (List ℕ)) (ask : Ask) (kept : IsWorld opening w) (lt : s < length w.sessions) where
  abbrev x : Step
  x = step.Publish s at token (asks.Change ask)

  goes_handed : (policy : Option PolicyRows) → policy_at w at ≡ policy → Goes opening w x (handed_in w s at token ask policy)
  goes_handed None is = goes_nowhere opening w x kept
  goes_handed (Some policy) is =
      let inside = slice_get_within (all_versions w.versions) at policy is in
      let long = length-append w.versions.earlier (w.versions.latest ∷ []) in
      either (Goes opening w x) (nat_lt at (seen_by w s).version) (overtaken w s ask)
      (if at == last_version w then made w s (policy_verdict w.versions token (asks.Change ask)) else lost w s at ask (decided policy token ask))
      (λ _. goes_overtaken opening w s x refl refl kept lt ask)
      (λ no. either (Goes opening w x) (at == last_version w) (made w s (policy_verdict w.versions token (asks.Change ask))) (lost w s at ask (decided policy token ask))
      (λ _. goes_made opening w s x refl refl kept lt (policy_verdict w.versions token (asks.Change ask)) (change_next w.versions (last_version w) token ask (decided w.versions.latest token ask) refl))
      (λ _. goes_lost opening w s x refl refl kept lt at ask (omega (arith, inside, long))
      (let q = not_from_Decides (nat_lt at (seen_by w s).version) (Decides-ltb at (seen_by w s).version) no in omega (arith, q)) (decided policy token ask)))

pub goes_publishing : (opening : StateRows) (w : World) (s at : ℕ) (token : Option (List ℕ)) (asked : PolicyOp) → IsWorld opening w → Goes opening w (step.Publish s at token asked) (publishing w s at token asked)
goes_publishing opening w s at token (asks.Change ask) kept =
    either (Goes opening w (step.Publish s at token (asks.Change ask))) (has_session w s) (handed_in w s at token ask (policy_at w at)) (stays w)
    (λ there. goes_handed opening w s at token ask kept ((Decides-ltb s (length w.sessions)).0 there) (policy_at w at) refl)
    (λ _. goes_nowhere opening w (step.Publish s at token (asks.Change ask)) kept)
goes_publishing opening w s at token asks.Me kept = goes_nowhere opening w (step.Publish s at token asks.Me) kept
goes_publishing opening w s at token (asks.Read asked) kept = goes_nowhere opening w (step.Publish s at token (asks.Read asked)) kept
goes_publishing opening w s at token (asks.Unread kind) kept = goes_nowhere opening w (step.Publish s at token (asks.Unread kind)) kept
