-- The answer to an act was decided under the policy of the plane's version.
use Rattle.std.proofs.Common.{◌≡◌, ◌∙◌, ◌⊎◌, inl, inr, refl, sym, ap, subst, ℕ, List, false, not, ◌&&◌}
use Rattle.std.specs.Prelude.{Option, Some, None, Result}
use Rattle.af_listing.specs.Windows.{Cut}
use Rattle.af_policy.specs.declared.bad_input.Parameter.{Parameter}
use Rattle.af_policy.specs.Identity.{bearer_of}
use Rattle.af_policy.specs.Rows.{PolicyRows}
use Rattle.af_ops.specs.declared.call.Call.{Call}
use Rattle.af_ops.specs.declared.call.Call.TheVariants as call
use Rattle.af_ops.specs.declared.op.Op.{Op}
use Rattle.af_ops.specs.declared.shown_answer.Shown.{Shown}
use Rattle.af_ops.specs.declared.status.Status.TheVariants.{Unauthorized, Forbidden}
use Rattle.af_ops.specs.Endpoints.{dag_of, endpoint_of}
use Rattle.af_ops.specs.Required.{needs_for}
use Rattle.af_ops.specs.Served.{answer_of, reply_told}
use Rattle.af_ops.specs.Standings.{with_entry}
use Rattle.af_ops.specs.Table.{is_open}
use Rattle.af_ops.specs.Verdicts.{Verdict, Open, Stranger, Lacks, Refuses, Tells, Changes, dag_ids}
use Rattle.af_audit.specs.Answered.{ledger_left, standing_of, verdict_on}
use Rattle.af_audit.specs.EventLogs.{entries_verdict, log_needs, nameless}
use Rattle.af_audit.specs.Ledgers.{LedgerRows}
use Rattle.af_world.specs.declared.step.Step.TheVariants as step
use Rattle.af_world.specs.Acting.{acted, acting, holds, listed}
use Rattle.af_world.specs.Asked.{Asked, dag_asked, dags_asked, needs_asked}
use Rattle.af_world.specs.Laws.{IsUnder, LeavesAll}
use Rattle.af_world.specs.Moving.{Move, stays}
use Rattle.af_world.specs.Steps.{Moves}
use Rattle.af_world.specs.Worlds.{World, policy_at}
use Rattle.af_world.proofs.JudgedLemmas.{IsJudged, judged_answer}
use Rattle.af_world.proofs.ToldLemmas.{Names, names_answer, reply_status, status_told}
use Rattle.af_world.proofs.VerdictLemmas.{Makes, closed_verdict, means_logs, means_op}
use Rattle.af_world.proofs.WorldLemmas.{both_true, either, is_closed}

-- an answer was decided under the policy of the version that it names
pub record IsDecided (w : World) (asked : Asked) (shown : Shown) : Type 0 where
  pub policy : PolicyRows
  pub under : IsUnder w shown policy
  pub judged : IsJudged policy asked.token (dag_asked asked.call) (dags_asked w.ledger.state asked.call) (needs_asked asked.call) shown

-- 401 or 403
abbrev pub IsRefused : Shown → Type 0
IsRefused shown = (shown.status ≡ Unauthorized) ⊎ (shown.status ≡ Forbidden)

-- what an answer to an act says: it was decided so, and where it is a refusal, all is left as it was
pub record ActSays (w : World) (asked : Asked) (shown : Shown) (m : Move) : Type 0 where
  pub decided : IsDecided w asked shown
  pub leaves : IsRefused shown → LeavesAll w m.next

-- a refusal leaves the ledger
refused_left : (who : Option (List ℕ)) (asked : Op) (t : ℕ) (ledger : LedgerRows) (shown : Shown) (it : Verdict) → answer_of asked (standing_of ledger).under it ≡ Some shown → IsRefused shown → ledger_left who asked t ledger it ≡ ledger
refused_left who asked t ledger shown (Open reply) e refused = refl
refused_left who asked t ledger shown Stranger e refused = refl
refused_left who asked t ledger shown (Lacks need) e refused = refl
refused_left who asked t ledger shown (Refuses why) e refused = refl
refused_left who asked t ledger shown (Tells reply) e refused = refl
refused_left who asked t ledger shown (Changes reply next) e (inl unknown) =
    absurd ((reply_status reply).0 (sym (status_told (Some (reply_told (with_entry (standing_of ledger).under) reply)) shown e) ∙ unknown))
refused_left who asked t ledger shown (Changes reply next) e (inr forbidden) =
    absurd ((reply_status reply).1 (sym (status_told (Some (reply_told (with_entry (standing_of ledger).under) reply)) shown e) ∙ forbidden))

module _ (w : World) (s : ℕ) (token : Option (List ℕ)) (shown : Shown) where
  -- where it is answered
  abbrev Says : Call → Move → Type 0
  Says asked m = m.answer ≡ Some shown → ActSays w (record { token = token; call = asked }) shown m

  is_under : (policy : PolicyRows) → policy_at w w.ledger.version ≡ Some policy → Names w.ledger.version (Some shown) → IsUnder w shown policy
  is_under policy under names = record { version = w.ledger.version; names = names; named = under }

  acted_says : (it : Op) (t : ℕ) → is_open (endpoint_of it) ≡ false → (policy : Option PolicyRows) → policy_at w w.ledger.version ≡ policy → Says (call.State it) (acted w s token it t policy)
  acted_says it t closed None under e = absurd (cc)
  acted_says it t closed (Some policy) under e =
      let v : Verdict = verdict_on policy w.ledger token it t in
      let means = means_op policy w.ledger token it t closed in
      let names : Names w.ledger.version (Some shown) = subst (Names w.ledger.version) e (names_answer it (standing_of w.ledger).under v (closed_verdict policy token (dag_of it) (dag_ids w.ledger.state) (needs_for it) (Makes w.ledger it t) v means)) in
      record {
        decided = record {
          policy = policy;
          under = is_under policy under names;
          judged = judged_answer policy token (dag_ids w.ledger.state) (needs_for it) (Makes w.ledger it t) it (standing_of w.ledger).under shown v means e;
        };
        leaves = λ refused.
            let same : ledger_left (bearer_of policy token) it t w.ledger v ≡ w.ledger = refused_left (bearer_of policy token) it t w.ledger shown v e refused in
            record { versions = refl; state = ap (λ (l : LedgerRows). l.state) same; audit = ap (λ (l : LedgerRows). l.audit) same };
      }

  listed_says : (window : Result Cut Parameter) (policy : Option PolicyRows) → policy_at w w.ledger.version ≡ policy → Says (call.Entries window) (listed w s token window policy)
  listed_says window None under e = absurd (cc)
  listed_says window (Some policy) under e =
      let v : Verdict = entries_verdict policy w.ledger token window in
      let means = means_logs policy w.ledger token window in
      let names : Names w.ledger.version (Some shown) = subst (Names w.ledger.version) e (names_answer nameless (standing_of w.ledger).under v (closed_verdict policy token None (dag_ids w.ledger.state) log_needs (λ next. ⊥) v means)) in
      record {
        decided = record {
          policy = policy;
          under = is_under policy under names;
          judged = judged_answer policy token (dag_ids w.ledger.state) log_needs (λ next. ⊥) nameless (standing_of w.ledger).under shown v means e;
        };
        leaves = λ refused. record { versions = refl; state = refl; audit = refl };
      }

  acting_says : (asked : Call) (t : ℕ) → Says asked (acting w s token asked t)
  acting_says (call.State it) t =
      either (Says (call.State it)) (holds w s && not (is_open (endpoint_of it))) (acted w s token it t (policy_at w w.ledger.version)) (stays w)
      (λ fit. acted_says it t (is_closed (is_open (endpoint_of it)) (both_true (holds w s) (not (is_open (endpoint_of it))) fit).1) (policy_at w w.ledger.version) refl)
      (λ _ e. absurd (cc))
  acting_says (call.Entries window) t =
      either (Says (call.Entries window)) (holds w s) (listed w s token window (policy_at w w.ledger.version)) (stays w)
      (λ _. listed_says window (policy_at w w.ledger.version) refl)
      (λ _ e. absurd (cc))
  acting_says (call.Policy it) t = λ e. absurd (cc)

  pub act_says : (asked : Call) (t : ℕ) (m : Move) → Moves w (step.Act s token asked t) m → Says asked m
  act_says asked t m is = subst (Says asked) (sym is) (acting_says asked t)
