-- What is told with 200 in the plane: a text, to a user who lacks no requirement.
use Rattle.std.proofs.Common.{◌≡◌, ◌∙◌, refl, sym, ap, subst, ℕ, List, Bool, false, not, ◌&&◌}
use Rattle.std.specs.Prelude.{⊤, Option, Some, None, Ok, Err, Result, unwrap_or, if◌then◌else◌}
use Rattle.serde_json.specs.Written.{compact_text}
use Rattle.af_role.specs.declared.need.Need.{Need}
use Rattle.af_policy.specs.Grants.{first_unmet, grants, readable_by, reads_dag}
use Rattle.af_policy.specs.Identity.{bearer_of}
use Rattle.af_policy.specs.Rows.{PolicyRows}
use Rattle.af_listing.specs.Windows.{Cut}
use Rattle.af_sched.specs.State.{StateRows}
use Rattle.af_ops.specs.declared.answer.CallFault.TheVariants as why
use Rattle.af_ops.specs.declared.answer.OpFault.{OpFault}
use Rattle.af_ops.specs.declared.call.Call.TheVariants as call
use Rattle.af_ops.specs.declared.op.Op.{Op}
use Rattle.af_ops.specs.declared.shown_answer.Shown.{Shown}
use Rattle.af_ops.specs.declared.status.Status.TheVariants.{Unauthorized, Forbidden}
use Rattle.af_ops.specs.declared.status.Status.TheVariants as status
use Rattle.af_ops.specs.Effects.{Effect, effect_of, nothing_readable}
use Rattle.af_ops.specs.Endpoints.{dag_of, endpoint_of}
use Rattle.af_ops.specs.Faults.{problem_of}
use Rattle.af_ops.specs.Required.{needs_for}
use Rattle.af_ops.specs.Served.{answer_of, reply_told}
use Rattle.af_ops.specs.Table.{is_open}
use Rattle.af_ops.specs.Verdicts.{Lacks, Stranger, dag_ids, done, judged, opened, permitted, recorded}
use Rattle.af_audit.specs.Answered.{standing_of}
use Rattle.af_audit.specs.EventLogs.{entries_judged, entries_permitted, log_needs, nameless}
use Rattle.af_audit.specs.Logs.{entries_data}
use Rattle.af_world.specs.declared.step.Step.TheVariants as step
use Rattle.af_world.specs.Acting.{acted, holds, listed}
use Rattle.af_world.specs.Asked.{Asked, dag_asked, dags_asked, needs_asked}
use Rattle.af_world.specs.Laws.{IsUnder}
use Rattle.af_world.specs.Moving.{Move, stays}
use Rattle.af_world.specs.Steps.{Moves}
use Rattle.af_world.specs.Worlds.{World, policy_at}
use Rattle.af_world.proofs.ToldLemmas.{op_fault_status, plane_fault}
use Rattle.af_world.proofs.WorldLemmas.{either}

-- such a text is told to the token's user, who lacks none of the requirements, under the policy of the version that is named
pub record TellsText (w : World) (asked : Asked) (IsText : PolicyRows → List ℕ → List ℕ → Type 0) (shown : Shown) : Type 0 where
  pub policy : PolicyRows
  pub user : List ℕ
  pub text : List ℕ
  pub under : IsUnder w shown policy
  pub bearer : bearer_of policy asked.token ≡ Some user
  pub lacks : first_unmet (grants policy user) (dag_asked asked.call) (dags_asked w.ledger.state asked.call) (needs_asked asked.call) ≡ None
  pub body : shown.body ≡ Some text
  pub is : IsText policy user text

-- what an operation that changes nothing does: a fault, or such a text is told
abbrev pub OnlyTells : (List ℕ → Type 0) → Result Effect OpFault → Type 0
OnlyTells IsText (Ok effect) = (text : List ℕ) × (effect.reply ≡ Some text) × (effect.next ≡ None) × IsText text
OnlyTells IsText (Err it) = ⊤

module _ (w : World) (asked : Asked) (IsText : PolicyRows → List ℕ → List ℕ → Type 0) (shown : Shown) (ok : shown.status ≡ status.Ok) where
  -- what is told with another status is not this
  not_ok : (answer : Option Shown) → answer ≡ Some shown → (unwrap_or answer shown).status ≡ status.Ok
  not_ok answer e = ap (λ (o : Option Shown). (unwrap_or o shown).status) e ∙ ok

  told_text : (policy : PolicyRows) (user text : List ℕ) → policy_at w w.ledger.version ≡ Some policy → bearer_of policy asked.token ≡ Some user → first_unmet (grants policy user) (dag_asked asked.call) (dags_asked w.ledger.state asked.call) (needs_asked asked.call) ≡ None → IsText policy user text → Some (reply_told (standing_of w.ledger).under (Some text)) ≡ Some shown → TellsText w asked IsText shown
  told_text policy user text under bearer lacks is e =
      let same : reply_told (standing_of w.ledger).under (Some text) ≡ shown = ap (λ (o : Option Shown). unwrap_or o (reply_told (standing_of w.ledger).under (Some text))) e in
      record {
        policy = policy;
        user = user;
        text = text;
        under = record { version = w.ledger.version; names = sym (ap (λ (s : Shown). s.version) same); named = under };
        bearer = bearer;
        lacks = lacks;
        body = sym (ap (λ (s : Shown). s.body) same);
        is = is;
      }

-- ---- an operation on the state

module _ (w : World) (token : Option (List ℕ)) (it : Op) (t : ℕ) (IsText : PolicyRows → List ℕ → List ℕ → Type 0) (shown : Shown) (ok : shown.status ≡ status.Ok) (closed : is_open (endpoint_of it) ≡ false)
    (tells : (policy : PolicyRows) (user : List ℕ) → OnlyTells (IsText policy user) (effect_of (readable_by (grants policy user)) w.ledger.state it t)) where
  abbrev asked : Asked
  asked = record { token = token; call = call.State it }

  abbrev Tells : Type 0
  Tells = TellsText w asked IsText shown

  module _ (policy : PolicyRows) (under : policy_at w w.ledger.version ≡ Some policy) where
    op_done : (user : List ℕ) → bearer_of policy token ≡ Some user → first_unmet (grants policy user) (dag_of it) (dag_ids w.ledger.state) (needs_for it) ≡ None → (comes : Result Effect OpFault) → OnlyTells (IsText policy user) comes → answer_of it (standing_of w.ledger).under (done w.ledger.audit.limit (standing_of w.ledger).under comes) ≡ Some shown → Tells
    op_done user bearer lacks (Err fault) only e =
        absurd ((plane_fault (standing_of w.ledger).under shown (problem_of it (why.Op fault)) (op_fault_status it fault) e).0 ok)
    op_done user bearer lacks (Ok effect) only e =
        told_text w asked IsText shown ok policy user only.0 under bearer lacks only.3
        (subst (λ (next : Option StateRows). answer_of it (standing_of w.ledger).under (recorded w.ledger.audit.limit (standing_of w.ledger).under (Some only.0) next) ≡ Some shown) only.2
        (subst (λ (reply : Option (List ℕ)). answer_of it (standing_of w.ledger).under (recorded w.ledger.audit.limit (standing_of w.ledger).under reply effect.next) ≡ Some shown) only.1 e))

    op_lacked : (user : List ℕ) → bearer_of policy token ≡ Some user → (lacked : Option Need) → first_unmet (grants policy user) (dag_of it) (dag_ids w.ledger.state) (needs_for it) ≡ lacked → answer_of it (standing_of w.ledger).under (permitted w.ledger.audit.limit (grants policy user) (standing_of w.ledger) it t lacked) ≡ Some shown → Tells
    op_lacked user bearer (Some need) lacks e =
        (let f : Forbidden ≡ status.Ok = not_ok w asked IsText shown ok (answer_of it (standing_of w.ledger).under (Lacks need)) e in absurd (cc))
    op_lacked user bearer None lacks e =
        op_done user bearer lacks (effect_of (readable_by (grants policy user)) w.ledger.state it t) (tells policy user) e

    op_bearer : (bearer : Option (List ℕ)) → bearer_of policy token ≡ bearer → answer_of it (standing_of w.ledger).under (judged w.ledger.audit.limit policy (standing_of w.ledger) it t bearer) ≡ Some shown → Tells
    op_bearer None is e =
        (let f : Unauthorized ≡ status.Ok = not_ok w asked IsText shown ok (answer_of it (standing_of w.ledger).under Stranger) e in absurd (cc))
    op_bearer (Some user) is e =
        op_lacked user is (first_unmet (grants policy user) (dag_of it) (dag_ids w.ledger.state) (needs_for it)) refl e

  op_acted : (s : ℕ) (policy : Option PolicyRows) → policy_at w w.ledger.version ≡ policy → (acted w s token it t policy).answer ≡ Some shown → Tells
  op_acted s None under e = absurd (cc)
  op_acted s (Some policy) under e =
      op_bearer policy under (bearer_of policy token) refl
      (subst (λ (told_openly : Bool). answer_of it (standing_of w.ledger).under (if told_openly then opened (effect_of nothing_readable w.ledger.state it t) else judged w.ledger.audit.limit policy (standing_of w.ledger) it t (bearer_of policy token)) ≡ Some shown) closed e)

  pub op_tells : (s : ℕ) (m : Move) → Moves w (step.Act s token (call.State it) t) m → m.answer ≡ Some shown → Tells
  op_tells s m is =
      subst (λ (move : Move). move.answer ≡ Some shown → Tells) (sym is)
      (either (λ (move : Move). move.answer ≡ Some shown → Tells) (holds w s && not (is_open (endpoint_of it))) (acted w s token it t (policy_at w w.ledger.version)) (stays w)
      (λ _. op_acted s (policy_at w w.ledger.version) refl)
      (λ _ e. absurd (cc)))

-- ---- event logs

module _ (w : World) (token : Option (List ℕ)) (window : Cut) (shown : Shown) (ok : shown.status ≡ status.Ok) where
  abbrev logs_asked : Asked
  logs_asked = record { token = token; call = call.Entries (Ok window) }

  abbrev IsLogs : PolicyRows → List ℕ → List ℕ → Type 0
  IsLogs policy user text = text ≡ compact_text (entries_data (reads_dag (grants policy user)) window w.ledger.audit.entries)

  abbrev TellsLogs : Type 0
  TellsLogs = TellsText w logs_asked IsLogs shown

  module _ (policy : PolicyRows) (under : policy_at w w.ledger.version ≡ Some policy) where
    logs_lacked : (user : List ℕ) → bearer_of policy token ≡ Some user → (lacked : Option Need) → first_unmet (grants policy user) None (dag_ids w.ledger.state) log_needs ≡ lacked → answer_of nameless (standing_of w.ledger).under (entries_permitted (grants policy user) w.ledger (Ok window) lacked) ≡ Some shown → TellsLogs
    logs_lacked user bearer (Some need) lacks e =
        (let f : Forbidden ≡ status.Ok = not_ok w logs_asked IsLogs shown ok (answer_of nameless (standing_of w.ledger).under (Lacks need)) e in absurd (cc))
    logs_lacked user bearer None lacks e =
        told_text w logs_asked IsLogs shown ok policy user (compact_text (entries_data (reads_dag (grants policy user)) window w.ledger.audit.entries)) under bearer lacks refl e

    logs_bearer : (bearer : Option (List ℕ)) → bearer_of policy token ≡ bearer → answer_of nameless (standing_of w.ledger).under (entries_judged policy w.ledger (Ok window) bearer) ≡ Some shown → TellsLogs
    logs_bearer None is e =
        (let f : Unauthorized ≡ status.Ok = not_ok w logs_asked IsLogs shown ok (answer_of nameless (standing_of w.ledger).under Stranger) e in absurd (cc))
    logs_bearer (Some user) is e =
        logs_lacked user is (first_unmet (grants policy user) None (dag_ids w.ledger.state) log_needs) refl e

  logs_listed : (s : ℕ) (policy : Option PolicyRows) → policy_at w w.ledger.version ≡ policy → (listed w s token (Ok window) policy).answer ≡ Some shown → TellsLogs
  logs_listed s None under e = absurd (cc)
  logs_listed s (Some policy) under e = logs_bearer policy under (bearer_of policy token) refl e

  pub logs_tell : (s t : ℕ) (m : Move) → Moves w (step.Act s token (call.Entries (Ok window)) t) m → m.answer ≡ Some shown → TellsLogs
  logs_tell s t m is =
      subst (λ (move : Move). move.answer ≡ Some shown → TellsLogs) (sym is)
      (either (λ (move : Move). move.answer ≡ Some shown → TellsLogs) (holds w s) (listed w s token (Ok window) (policy_at w w.ledger.version)) (stays w)
      (λ _. logs_listed s (policy_at w w.ledger.version) refl)
      (λ _ e. absurd (cc)))
