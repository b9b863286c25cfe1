-- What an act keeps and tells.
use Rattle.std.proofs.Common.{◌≡◌, ◌∙◌, refl, sym, subst, ℕ, ◌≤◌, ◌<◌, List, [], ◌∷◌, ◌++◌, true, false, not, ◌==◌, ◌&&◌, length, arith}
use Rattle.std.specs.Prelude.{Option, Some, None, Result, option_to_list, slice_set}
use Rattle.std.proofs.lemmas.Bool.Decides.{Decides-eqb, Decides-ltb}
use Rattle.af_listing.specs.Windows.{Cut}
use Rattle.af_policy.specs.declared.bad_input.Parameter.{Parameter}
use Rattle.af_policy.specs.Identity.{bearer_of}
use Rattle.af_policy.specs.Rows.{PolicyRows}
use Rattle.af_policy.specs.Versions.{all_versions}
use Rattle.af_sched.specs.State.{StateRows}
use Rattle.af_ops.specs.declared.call.Call.{Call}
use Rattle.af_ops.specs.declared.call.Call.TheVariants as call
use Rattle.af_ops.specs.declared.op.Op.{Op}
use Rattle.af_ops.specs.declared.shown_answer.Shown.{Shown}
use Rattle.af_ops.specs.Endpoints.{dag_of, endpoint_of}
use Rattle.af_ops.specs.Required.{needs_for}
use Rattle.af_ops.specs.Served.{answer_of}
use Rattle.af_ops.specs.Table.{is_open}
use Rattle.af_ops.specs.Verdicts.{Verdict, Open, Stranger, Lacks, Refuses, Tells, Changes, dag_ids}
use Rattle.af_audit.specs.declared.act.Act.TheVariants as act
use Rattle.af_audit.specs.declared.actor.Actor.TheVariants as actor
use Rattle.af_audit.specs.Acts.{IsAfter, IsState}
use Rattle.af_audit.specs.Answered.{entered_for, ledger_left, standing_of, verdict_on}
use Rattle.af_audit.specs.Entries.{has_room}
use Rattle.af_audit.specs.EventLogs.{entries_verdict, log_needs, nameless}
use Rattle.af_audit.specs.Ledgers.{Climb, LedgerRows}
use Rattle.af_world.specs.declared.step.Step.{Step}
use Rattle.af_world.specs.declared.step.Step.TheVariants as step
use Rattle.af_world.specs.Acting.{acted, acting, answers, holds, listed}
use Rattle.af_world.specs.Laws.{IsAsSeen}
use Rattle.af_world.specs.Moving.{stays}
use Rattle.af_world.specs.Runs.{told_by}
use Rattle.af_world.specs.Worlds.{World, has_session, is_held, policy_at, seen_by, sees_entries}
use Rattle.af_world.proofs.RuleLemmas.{none_lacked}
use Rattle.af_world.proofs.SeenLemmas.{seen}
use Rattle.af_world.proofs.SightLemmas.{kept_entries, same_session, same_sights}
use Rattle.af_world.proofs.ToldLemmas.{Names, names_answer}
use Rattle.af_world.proofs.VerdictLemmas.{Asks, Makes, MeansOp, closed_verdict, means_logs, means_op}
use Rattle.af_world.proofs.WorldLemmas.{GoesOn, IsWorld, Keeps, both_true, either, goes_nowhere, is_closed, keeps_entered, keeps_same, kept_ledger}

act_climbs : (w : World) (s t : ℕ) (token : Option (List ℕ)) (asked : Call) (now later : ℕ) (answer : Option Shown) → seen w.sessions s ≡ w.ledger.version → Names w.ledger.version answer → later ≡ seen w.sessions t → Climb (seen w.sessions t) (told_by t (step.Act s token asked now) answer ++ later ∷ [])
act_climbs w s t token asked now later None at names same = (omega arith, tt)
act_climbs w s t token asked now later (Some shown) at names same =
    either (λ (vs : List ℕ). Climb (seen w.sessions t) (vs ++ later ∷ [])) (s == t) (option_to_list shown.version) []
    (λ own.
    let here : seen w.sessions t ≡ w.ledger.version = subst (λ (u : ℕ). seen w.sessions u ≡ w.ledger.version) ((Decides-eqb s t).0 own) at in
    subst (λ (o : Option ℕ). Climb (seen w.sessions t) (option_to_list o ++ later ∷ [])) (sym names) (omega arith, (omega arith, tt)))
    (λ _. (omega arith, tt))

-- an act is answered under the version that the session has seen
act_as_seen : (w next : World) (s t : ℕ) (x : Step) (shown : Shown) → s ≡ t → seen w.sessions s ≡ w.ledger.version → shown.version ≡ Some w.ledger.version → seen next.sessions t ≡ seen w.sessions t → IsAsSeen w x t shown next
act_as_seen w next s t x shown own at names same =
    let here : seen w.sessions t ≡ w.ledger.version = subst (λ (u : ℕ). seen w.sessions u ≡ w.ledger.version) own at in
    let low : seen w.sessions t ≤ w.ledger.version = omega arith in
    record { version = w.ledger.version; names = names; later = low; seen = same ∙ here; looked = λ _. here }

module _ (opening : StateRows) (w : World) (s : ℕ) (token : Option (List ℕ)) (asked : Call) (t : ℕ) (kept : IsWorld opening w) where
  -- a verdict that is told, and a ledger in the place of the world's
  goes_answers : s < length w.sessions → is_held w.holder s ≡ true → (told_as : Op) (ledger : LedgerRows) (it : Verdict) → Names w.ledger.version (answer_of told_as (standing_of w.ledger).under it) → (IsState ledger.state → Keeps (all_versions w.versions) w.ledger ledger) → GoesOn opening w (step.Act s token asked t) (answers w s told_as ledger it)
  goes_answers lt held told_as ledger it names keeps state = record {
    kept = kept_entries opening (record w { ledger = ledger; holder = None }) s (kept_ledger opening w ledger kept (keeps state) state) refl lt;
    climbs = λ other. act_climbs w s other token asked t (seen (slice_set w.sessions s (record { version = (seen_by w s).version; entries = length ledger.audit.entries })) other)
        (answer_of told_as (standing_of w.ledger).under it) (kept.held s held) names (same_sights w s other (length ledger.audit.entries) lt);
    as_seen = λ other shown e of.
        act_as_seen w (sees_entries (record w { ledger = ledger; holder = None }) s) s other (step.Act s token asked t) shown (same_session (step.Act s token asked t) s other refl of)
        (kept.held s held) (subst (Names w.ledger.version) e names) (same_sights w s other (length ledger.audit.entries) lt);
  }

  same_ledger : Keeps (all_versions w.versions) w.ledger w.ledger
  same_ledger = keeps_same (all_versions w.versions) w.ledger kept.ledger kept.granted w.ledger refl

  -- ---- operations on the state

  module _ (it : Op) (policy : PolicyRows) (under : policy_at w w.ledger.version ≡ Some policy) where
    keeps_change : (who : Option (List ℕ)) (asks : Asks policy token (dag_of it) (dag_ids w.ledger.state) (needs_for it) None) (next : StateRows) → who ≡ Some asks.user → IsAfter (act.Did it) t w.ledger.state next → has_room w.ledger.audit ≡ true → IsState (entered_for who it t w.ledger next).state → Keeps (all_versions w.versions) w.ledger (entered_for who it t w.ledger next)
    keeps_change who asks next is after room =
        subst (λ (o : Option (List ℕ)). IsState (entered_for o it t w.ledger next).state → Keeps (all_versions w.versions) w.ledger (entered_for o it t w.ledger next)) (sym is)
        (λ state. keeps_entered (all_versions w.versions) w.ledger kept.ledger kept.granted (actor.User asks.user) (act.Did it) t next room refl state after
        (policy, under, none_lacked policy asks.user (dag_of it) (dag_ids w.ledger.state) (needs_for it) asks.lacks))

    keeps_act : (v : Verdict) → MeansOp policy w.ledger token it t v → IsState (ledger_left (bearer_of policy token) it t w.ledger v).state → Keeps (all_versions w.versions) w.ledger (ledger_left (bearer_of policy token) it t w.ledger v)
    keeps_act (Open reply) m state = absurd m
    keeps_act Stranger m state = same_ledger
    keeps_act (Lacks need) m state = same_ledger
    keeps_act (Refuses why) m state = same_ledger
    keeps_act (Tells reply) m state = same_ledger
    keeps_act (Changes reply next) m state = keeps_change (bearer_of policy token) m.0 next m.0.bearer m.1.0 m.1.1 state

    goes_op : s < length w.sessions → is_held w.holder s ≡ true → (v : Verdict) → MeansOp policy w.ledger token it t v → GoesOn opening w (step.Act s token asked t) (answers w s it (ledger_left (bearer_of policy token) it t w.ledger v) v)
    goes_op lt held v m =
        goes_answers lt held it (ledger_left (bearer_of policy token) it t w.ledger v) v
        (names_answer it (standing_of w.ledger).under v (closed_verdict policy token (dag_of it) (dag_ids w.ledger.state) (needs_for it) (Makes w.ledger it t) v m)) (keeps_act v m)

  goes_acted : s < length w.sessions → is_held w.holder s ≡ true → (it : Op) → is_open (endpoint_of it) ≡ false → (policy : Option PolicyRows) → policy_at w w.ledger.version ≡ policy → GoesOn opening w (step.Act s token asked t) (acted w s token it t policy)
  goes_acted lt held it closed None under = λ _. goes_nowhere opening w (step.Act s token asked t) kept
  goes_acted lt held it closed (Some policy) under =
      goes_op it policy under lt held (verdict_on policy w.ledger token it t) (means_op policy w.ledger token it t closed)

  -- ---- event logs

  goes_listed : s < length w.sessions → is_held w.holder s ≡ true → (window : Result Cut Parameter) (policy : Option PolicyRows) → GoesOn opening w (step.Act s token asked t) (listed w s token window policy)
  goes_listed lt held window None = λ _. goes_nowhere opening w (step.Act s token asked t) kept
  goes_listed lt held window (Some policy) =
      goes_answers lt held nameless w.ledger (entries_verdict policy w.ledger token window)
      (names_answer nameless (standing_of w.ledger).under (entries_verdict policy w.ledger token window) (closed_verdict policy token None (dag_ids w.ledger.state) log_needs (λ next. ⊥) (entries_verdict policy w.ledger token window) (means_logs policy w.ledger token window)))
      (λ _. same_ledger)

-- ---- what is asked of the plane

module _ (opening : StateRows) (w : World) (s : ℕ) (token : Option (List ℕ)) (t : ℕ) (kept : IsWorld opening w) where
  -- a session that holds the plane
  there : holds w s ≡ true → (s < length w.sessions) × (is_held w.holder s ≡ true)
  there both = (let parts = both_true (has_session w s) (is_held w.holder s) both in ((Decides-ltb s (length w.sessions)).0 parts.0, parts.1))

  pub goes_acting : (asked : Call) → GoesOn opening w (step.Act s token asked t) (acting w s token asked t)
  goes_acting (call.State it) =
      either (GoesOn opening w (step.Act s token (call.State it) t)) (holds w s && not (is_open (endpoint_of it))) (acted w s token it t (policy_at w w.ledger.version)) (stays w)
      (λ fit.
      let both = both_true (holds w s) (not (is_open (endpoint_of it))) fit in
      let here = there both.0 in
      goes_acted opening w s token (call.State it) t kept here.0 here.1 it (is_closed (is_open (endpoint_of it)) both.1) (policy_at w w.ledger.version) refl)
      (λ _ _. goes_nowhere opening w (step.Act s token (call.State it) t) kept)
  goes_acting (call.Entries window) =
      either (GoesOn opening w (step.Act s token (call.Entries window) t)) (holds w s) (listed w s token window (policy_at w w.ledger.version)) (stays w)
      (λ fit. let here = there fit in goes_listed opening w s token (call.Entries window) t kept here.0 here.1 window (policy_at w w.ledger.version))
      (λ _ _. goes_nowhere opening w (step.Act s token (call.Entries window) t) kept)
  goes_acting (call.Policy it) = λ _. goes_nowhere opening w (step.Act s token (call.Policy it) t) kept
