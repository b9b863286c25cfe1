-- What is told of a call, and what that leaves, is one function of the call, whether its body was read or not.
use Rattle.std.proofs.Common.{◌≡◌, ◌⊎◌, ◌∙◌, inl, inr, ap, subst, ℕ, List, [], Bool, true, false}
use Rattle.std.specs.Prelude.{Option, Some, None, option_map, Result, Err, codes, ◌++◌, map, if◌then◌else◌}
use Rattle.af_role.specs.Needs.{need_text}
use Rattle.af_role.specs.Pairs.{PairRow}
use Rattle.af_role.specs.declared.need.Need.{Need}
use Rattle.af_policy.specs.Grants.{first_unmet, grants, missing}
use Rattle.af_policy.specs.Changes.{needs_of}
use Rattle.af_policy.specs.Identity.{bearer_of}
use Rattle.af_policy.specs.Rows.{PolicyRows}
use Rattle.af_policy.specs.Versions.{asked_by, asked_kind, decided, unless_lacked}
use Rattle.af_policy.specs.declared.ask.Ask.{Ask}
use Rattle.af_policy.specs.declared.ask.Ask.TheVariants.{Made, Bad}
use Rattle.af_policy.specs.declared.bad_input.BadInput.TheVariants as input
use Rattle.af_policy.specs.declared.change.Change.TheVariants.{AddRole, SetRole, DropRole, AddUser, SetUser, DropUser, SyncDag}
use Rattle.af_policy.specs.Grants.{Readable}
use Rattle.af_ops.specs.declared.answer.OpFault.{OpFault}
use Rattle.af_ops.specs.declared.answer.OpFault.TheVariants.{OutOfMemory}
use Rattle.af_ops.specs.declared.endpoint.Endpoint.{Endpoint}
use Rattle.af_ops.specs.declared.op.Op.{Op}
use Rattle.af_ops.specs.declared.policy_op.PolicyOp.{PolicyOp}
use Rattle.af_ops.specs.declared.policy_op.PolicyOp.TheVariants as asks
use Rattle.af_ops.specs.declared.shown_answer.Shown.{Shown}
use Rattle.af_ops.specs.declared.status.Status.TheVariants as status
use Rattle.af_ops.specs.Effects.{Effect, effect_of, nothing_readable}
use Rattle.af_ops.specs.Endpoints.{dag_of, endpoint_of, unread}
use Rattle.af_ops.specs.Faults.{fault_of}
use Rattle.af_ops.specs.PolicyOps as policies
use Rattle.af_ops.specs.PolicyServed.{told_of}
use Rattle.af_ops.specs.PolicyUnder.{verdict_under, with_room}
use Rattle.af_ops.specs.PolicyVerdicts.{PolicyVerdict, Publishes, Refuses, Tells, change_verdict, unread_verdict}
use Rattle.af_ops.specs.Required.{at_named}
use Rattle.af_ops.specs.Served.{answer_of, problem_told}
use Rattle.af_ops.specs.Table as table
use Rattle.af_ops.specs.Table.{is_open}
use Rattle.af_ops.specs.Verdicts.{Verdict, dag_ids, done, judged, opened, permitted}
use Rattle.af_ops.proofs.UnreadLemmas.{IsUnread, WantsMemory, unread_is}
use Rattle.af_audit.specs.Answered.{ledger_left, standing_of, verdict_on}
use Rattle.af_audit.specs.Ledgers.{LedgerRows}

-- an answer, with what it leaves
abbrev pub with_left : {X : Type 0} → X → Shown → Shown × X
with_left left shown = (shown, left)

-- ---- operations on the state; kept: what is left where this ledger is
module _ {X : Type 0} (kept : LedgerRows → X) (policy : PolicyRows) (ledger : LedgerRows) (token : Option (List ℕ)) (t : ℕ) where
  -- what is told of a verdict on what is asked, with what is left
  abbrev pub told_op : Op → Verdict → Option (Shown × X)
  told_op asked it =
      option_map (with_left (kept (ledger_left (bearer_of policy token) asked t ledger it))) (answer_of asked (standing_of ledger).under it)

  -- One is as the other, but that its body was not read: where it is answered, the other is answered so.
  module _ (whole half : Op) (dag : dag_of half ≡ dag_of whole) (place : endpoint_of half ≡ endpoint_of whole)
      (want : (readable : Readable) → effect_of readable ledger.state half t ≡ Err OutOfMemory) (p : Shown × X) where
    by_need : (granted : PairRow → Bool) (need : Option Need)
        → told_op half (permitted ledger.audit.limit granted (standing_of ledger) half t need) ≡ Some p
        → told_op whole (permitted ledger.audit.limit granted (standing_of ledger) whole t need) ≡ Some p
    by_need granted (Some need) told =
        subst (λ (d : Option (List ℕ)). option_map (with_left (kept ledger)) (option_map (problem_told (standing_of ledger).under) (fault_of status.Forbidden (codes "missing permission " ++ need_text need d))) ≡ Some p) dag told
    by_need granted None told =
        let none : told_op half (done ledger.audit.limit (standing_of ledger).under (Err OutOfMemory)) ≡ Some p =
        subst (λ (e : Result Effect OpFault). told_op half (done ledger.audit.limit (standing_of ledger).under e) ≡ Some p) (want _) told in
        absurd (cc none)

    by_user : (user : Option (List ℕ))
        → told_op half (judged ledger.audit.limit policy (standing_of ledger) half t user) ≡ Some p
        → told_op whole (judged ledger.audit.limit policy (standing_of ledger) whole t user) ≡ Some p
    by_user None told = told
    by_user (Some user) told =
        let granted : PairRow → Bool = grants policy user in
        let need : Option (List ℕ) → Endpoint → Option Need = λ d e. first_unmet granted d (dag_ids ledger.state) (map (at_named d) (table.needs_of e)) in
        let P : Option Need → Type 0 = λ n. told_op half (permitted ledger.audit.limit granted (standing_of ledger) half t n) ≡ Some p in
        by_need granted (need (dag_of whole) (endpoint_of whole))
        (subst P (ap (λ (d : Option (List ℕ)). need d (endpoint_of half)) dag ∙ ap (need (dag_of whole)) place) told)

    by_open : (opens : Bool)
        → told_op half (if opens then opened (effect_of nothing_readable ledger.state half t) else judged ledger.audit.limit policy (standing_of ledger) half t (bearer_of policy token)) ≡ Some p
        → told_op whole (if opens then opened (effect_of nothing_readable ledger.state whole t) else judged ledger.audit.limit policy (standing_of ledger) whole t (bearer_of policy token)) ≡ Some p
    by_open true told =
        let none : told_op half (opened (Err OutOfMemory)) ≡ Some p =
        subst (λ (e : Result Effect OpFault). told_op half (opened e) ≡ Some p) (want nothing_readable) told in
        absurd (cc none)
    by_open false told = by_user (bearer_of policy token) told

    pub half_told : told_op half (verdict_on policy ledger token half t) ≡ Some p → told_op whole (verdict_on policy ledger token whole t) ≡ Some p
    half_told told =
        by_open (is_open (endpoint_of whole))
        (subst (λ (e : Endpoint). told_op half (if is_open e then opened (effect_of nothing_readable ledger.state half t) else judged ledger.audit.limit policy (standing_of ledger) half t (bearer_of policy token)) ≡ Some p) place told)

  without : (whole half : Op) → IsUnread whole half → (p : Shown × X)
      → told_op half (verdict_on policy ledger token half t) ≡ Some p
      → told_op whole (verdict_on policy ledger token whole t) ≡ Some p
  without whole half is p told = by is.effect
    where
      by : (half ≡ whole) ⊎ WantsMemory half → told_op whole (verdict_on policy ledger token whole t) ≡ Some p
      by (inl same) = subst (λ (asked : Op). told_op asked (verdict_on policy ledger token asked t) ≡ Some p) same told
      by (inr want) = half_told whole half is.dag is.endpoint (λ reads. want reads ledger.state t) p told

  pub unread_told : (asked : Op) (p : Shown × X)
      → told_op (unread asked) (verdict_on policy ledger token (unread asked) t) ≡ Some p
      → told_op asked (verdict_on policy ledger token asked t) ≡ Some p
  unread_told asked = without asked (unread asked) (unread_is asked)

-- ---- operations on the policy; kept: what is left where this policy was made a version, or none was
-- the policy that a verdict makes a version
abbrev pub made_by : PolicyVerdict → Option PolicyRows
made_by (Refuses problem) = None
made_by (Tells reply) = None
made_by (Publishes reply policy) = Some policy

module _ {X : Type 0} (kept : Option PolicyRows → X) (version last : ℕ) (policy : PolicyRows) where
  abbrev pub told_policy : PolicyVerdict → Option (Shown × X)
  told_policy it = option_map (with_left (kept (made_by it))) (told_of version it)

  module _ (token : Option (List ℕ)) (p : Shown × X) where
    module _ (ask : Ask) where
      change_by_need : (need : Option Need)
          → told_policy (unread_verdict (unless_lacked policy (Bad (asked_kind ask) input.Body) need)) ≡ Some p
          → told_policy (change_verdict version ask (with_room version last (unless_lacked policy ask need))) ≡ Some p
      change_by_need (Some need) told = told
      change_by_need None told = absurd (cc told)

      change_by_user : (user : Option (List ℕ))
          → told_policy (unread_verdict (asked_by policy (Bad (asked_kind ask) input.Body) user)) ≡ Some p
          → told_policy (change_verdict version ask (with_room version last (asked_by policy ask user))) ≡ Some p
      change_by_user None told = told
      change_by_user (Some user) told = change_by_need (missing policy user (needs_of (asked_kind ask)) None []) told

      pub change_unread :
          told_policy (unread_verdict (decided policy token (Bad (asked_kind ask) input.Body))) ≡ Some p
          → told_policy (change_verdict version ask (with_room version last (decided policy token ask))) ≡ Some p
      change_unread told = change_by_user (bearer_of policy token) told

    pub policy_unread : (asked : PolicyOp)
        → told_policy (verdict_under version last policy token (policies.unread asked)) ≡ Some p
        → told_policy (verdict_under version last policy token asked) ≡ Some p
    policy_unread asks.Me told = told
    policy_unread (asks.Read asked) told = told
    policy_unread (asks.Change (Made (AddRole role))) told = change_unread (Made (AddRole role)) told
    policy_unread (asks.Change (Made (SetRole role))) told = change_unread (Made (SetRole role)) told
    policy_unread (asks.Change (Made (DropRole name))) told = told
    policy_unread (asks.Change (Made (AddUser user))) told = change_unread (Made (AddUser user)) told
    policy_unread (asks.Change (Made (SetUser patch))) told = change_unread (Made (SetUser patch)) told
    policy_unread (asks.Change (Made (DropUser name))) told = told
    policy_unread (asks.Change (Made (SyncDag access))) told = change_unread (Made (SyncDag access)) told
    policy_unread (asks.Change (Bad kind body)) told = change_unread (Bad kind body) told
    policy_unread (asks.Unread kind) told = told
