-- The answer to an act counts the entries, its own included.
use Rattle.std.proofs.Common.{◌≡◌, ◌∙◌, sym, ap, subst, ℕ, ◌+◌, List, not, ◌&&◌, length, length-append}
use Rattle.std.specs.Prelude.{[], ◌∷◌, Option, Some, None, Result, false, option_map, unwrap_or}
use Rattle.af_listing.specs.Windows.{Cut}
use Rattle.af_policy.specs.declared.bad_input.Parameter.{Parameter}
use Rattle.af_policy.specs.Identity.{bearer_of}
use Rattle.af_policy.specs.Rows.{PolicyRows}
use Rattle.af_sched.specs.State.{StateRows}
use Rattle.af_ops.specs.declared.answer.CallFault.TheVariants as why
use Rattle.af_ops.specs.declared.answer.Under.{Under}
use Rattle.af_ops.specs.declared.call.Call.{Call}
use Rattle.af_ops.specs.declared.call.Call.TheVariants as call
use Rattle.af_ops.specs.declared.op.Op.{Op}
use Rattle.af_ops.specs.declared.shown_answer.Shown.{Shown}
use Rattle.af_ops.specs.Endpoints.{endpoint_of}
use Rattle.af_ops.specs.Faults.{problem_of}
use Rattle.af_ops.specs.Rows.{Problem}
use Rattle.af_ops.specs.Served.{answer_of, problem_told, reply_told}
use Rattle.af_ops.specs.Standings.{with_entry}
use Rattle.af_ops.specs.Table.{is_open}
use Rattle.af_ops.specs.Verdicts.{Verdict, Open, Stranger, Lacks, Refuses, Tells, Changes}
use Rattle.af_audit.specs.declared.act.Act.TheVariants.{Did}
use Rattle.af_audit.specs.declared.actor.Actor.TheVariants.{User}
use Rattle.af_audit.specs.Answered.{entered_for, ledger_left, standing_of, verdict_on}
use Rattle.af_audit.specs.EventLogs.{entries_verdict, nameless}
use Rattle.af_audit.specs.Ledgers.{LedgerRows, entry_of}
use Rattle.af_world.specs.Acting.{acted, acting, holds, listed}
use Rattle.af_world.specs.Laws.{ActsCountTheEntries}
use Rattle.af_world.specs.Moving.{Move, stays}
use Rattle.af_world.specs.Worlds.{World, policy_at}
use Rattle.af_world.proofs.VerdictLemmas.{MeansLogs, MeansOp, means_logs, means_op}
use Rattle.af_world.proofs.WorldLemmas.{both_true, either, is_closed}

-- the number of entries that is told
told_count : (answer : Option Shown) (shown : Shown) → answer ≡ Some shown → shown.seq ≡ (unwrap_or answer shown).seq
told_count answer shown e = sym (ap (λ (o : Option Shown). (unwrap_or o shown).seq) e)

fault_count : (under : Under) (problem : Option Problem) (shown : Shown) → option_map (problem_told under) problem ≡ Some shown → shown.seq ≡ Some under.seq
fault_count under None shown e = absurd (cc)
fault_count under (Some problem) shown e = told_count (Some (problem_told under problem)) shown e

-- what is left of a change has one entry more
one_more : (ledger : LedgerRows) (asked : Op) (t : ℕ) (next : StateRows) (who : Option (List ℕ)) (user : List ℕ) → who ≡ Some user → length (entered_for who asked t ledger next).audit.entries ≡ length ledger.audit.entries + 1
one_more ledger asked t next who user is =
    subst (λ (o : Option (List ℕ)). length (entered_for o asked t ledger next).audit.entries ≡ length ledger.audit.entries + 1) (sym is)
    (length-append ledger.audit.entries (entry_of ledger (User user) (Did asked) t ∷ []))

module _ (policy : PolicyRows) (ledger : LedgerRows) (token : Option (List ℕ)) (asked : Op) (t : ℕ) (shown : Shown) where
  counted : (it : Verdict) → MeansOp policy ledger token asked t it → answer_of asked (standing_of ledger).under it ≡ Some shown → shown.seq ≡ Some (length (ledger_left (bearer_of policy token) asked t ledger it).audit.entries)
  counted (Open reply) m e = absurd m
  counted Stranger m e = fault_count (standing_of ledger).under (problem_of asked why.Unauthenticated) shown e
  counted (Lacks need) m e = fault_count (standing_of ledger).under (problem_of asked (why.Denied need)) shown e
  counted (Refuses fault) m e = fault_count (standing_of ledger).under (problem_of asked (why.Op fault)) shown e
  counted (Tells reply) m e = told_count (Some (reply_told (standing_of ledger).under reply)) shown e
  counted (Changes reply next) m e =
      told_count (Some (reply_told (with_entry (standing_of ledger).under) reply)) shown e
      ∙ ap (λ (n : ℕ). Some n) (sym (one_more ledger asked t next (bearer_of policy token) m.0.user m.0.bearer))

-- of event logs
logs_counted : (policy : PolicyRows) (ledger : LedgerRows) (token : Option (List ℕ)) (window : Result Cut Parameter) (shown : Shown) (it : Verdict) → MeansLogs policy ledger token window it → answer_of nameless (standing_of ledger).under it ≡ Some shown → shown.seq ≡ Some (length ledger.audit.entries)
logs_counted policy ledger token window shown (Open reply) m e = absurd m
logs_counted policy ledger token window shown Stranger m e = fault_count (standing_of ledger).under (problem_of nameless why.Unauthenticated) shown e
logs_counted policy ledger token window shown (Lacks need) m e = fault_count (standing_of ledger).under (problem_of nameless (why.Denied need)) shown e
logs_counted policy ledger token window shown (Refuses fault) m e = fault_count (standing_of ledger).under (problem_of nameless (why.Op fault)) shown e
logs_counted policy ledger token window shown (Tells reply) m e = told_count (Some (reply_told (standing_of ledger).under reply)) shown e
logs_counted policy ledger token window shown (Changes reply next) m e = absurd m.1

module _ (w : World) (s : ℕ) (token : Option (List ℕ)) (shown : Shown) where
  abbrev Counts : Move → Type 0
  Counts m = m.answer ≡ Some shown → shown.seq ≡ Some (length m.next.ledger.audit.entries)

  acted_counts : (it : Op) (t : ℕ) → is_open (endpoint_of it) ≡ false → (policy : Option PolicyRows) → Counts (acted w s token it t policy)
  acted_counts it t closed None e = absurd (cc)
  acted_counts it t closed (Some policy) e =
      counted policy w.ledger token it t shown (verdict_on policy w.ledger token it t) (means_op policy w.ledger token it t closed) e

  listed_counts : (window : Result Cut Parameter) (policy : Option PolicyRows) → Counts (listed w s token window policy)
  listed_counts window None e = absurd (cc)
  listed_counts window (Some policy) e =
      logs_counted policy w.ledger token window shown (entries_verdict policy w.ledger token window) (means_logs policy w.ledger token window) e

  acting_counts : (asked : Call) (t : ℕ) → Counts (acting w s token asked t)
  acting_counts (call.State it) t =
      either Counts (holds w s && not (is_open (endpoint_of it))) (acted w s token it t (policy_at w w.ledger.version)) (stays w)
      (λ fit. acted_counts it t (is_closed (is_open (endpoint_of it)) (both_true (holds w s) (not (is_open (endpoint_of it))) fit).1) (policy_at w w.ledger.version))
      (λ _ e. absurd (cc))
  acting_counts (call.Entries window) t =
      either Counts (holds w s) (listed w s token window (policy_at w w.ledger.version)) (stays w)
      (λ _. listed_counts window (policy_at w w.ledger.version))
      (λ _ e. absurd (cc))
  acting_counts (call.Policy it) t = λ e. absurd (cc)

pub acts_count : ActsCountTheEntries
acts_count w s token asked t m shown is = subst (Counts w s token shown) (sym is) (acting_counts w s token shown asked t)
