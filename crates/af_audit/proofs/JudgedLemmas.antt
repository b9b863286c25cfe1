-- What is served of a user's request on a ledger, and the entry of a change.
use Rattle.std.proofs.Common.{◌≡◌, ◌∙◌, ◌⊎◌, inl, inr, refl, sym, ap, subst, ℕ, ◌+◌, List, [], ◌∷◌, length, Bool, true, false}
use Rattle.std.proofs.lemmas.Bool.{false≢true}
use Rattle.std.proofs.lemmas.List.{length-append}
use Rattle.std.specs.Prelude.{Option, Some, None, Result, Ok, Err, if◌then◌else◌}
use Rattle.af_role.specs.Pairs.{PairRow}
use Rattle.af_policy.specs.Grants.{first_unmet}
use Rattle.af_policy.specs.Identity.{bearer_of}
use Rattle.af_policy.specs.Rows.{PolicyRows}
use Rattle.af_ops.specs.declared.answer.CallFault.{CallFault}
use Rattle.af_ops.specs.declared.answer.CallFault.TheVariants as why
use Rattle.af_ops.specs.declared.answer.OpFault.TheVariants.{OutOfMemory}
use Rattle.af_ops.specs.declared.answer.Under.{Under}
use Rattle.af_ops.specs.declared.op.Op.{Op}
use Rattle.af_ops.specs.declared.served.Served.{Served}
use Rattle.af_ops.specs.declared.served.Served.TheVariants as served
use Rattle.af_ops.specs.declared.served.Served.TheVariants.{Shown}
use Rattle.af_ops.specs.Decisions.{IsDecided, IsDoing, fault_verdict}
use Rattle.af_ops.specs.Edits.{edited, is_edit}
use Rattle.af_ops.specs.Effects.{effect_of, nothing_readable}
use Rattle.af_ops.specs.Endpoints.{dag_of, endpoint_of}
use Rattle.af_ops.specs.Prepared.{IsExact, Preparation}
use Rattle.af_ops.specs.Required.{needs_for}
use Rattle.af_ops.specs.Served.{IsServed, reply_told}
use Rattle.af_ops.specs.Standings.{StandingRows}
use Rattle.af_ops.specs.Table.{is_open}
use Rattle.af_ops.specs.Verdicts.{Refuses, Verdict, dag_ids, granted_verdict, judged, opened}
use Rattle.af_audit.specs.declared.act.Act.TheVariants.{Did}
use Rattle.af_audit.specs.declared.actor.Actor.TheVariants.{User}
use Rattle.af_audit.specs.Answered.{closed_verdict, standing_of, verdict_on}
use Rattle.af_audit.specs.Acts.{after_op}
use Rattle.af_audit.specs.Entries.{AuditRows, has_room, with_entry}
use Rattle.af_audit.specs.Ledgers.{Enters, LedgerRows, entry_of}
use Rattle.af_audit.proofs.AnsweredLemmas.{change_is_after, change_verdict, serves_change, serves_told}

-- ---- a fault, or no memory for what is permitted

none_some : {X : Type 0} {x : X} → None ≡ Some x → ⊥
none_some same = cc

-- out of memory may be served of each verdict
without_memory : (asked : Op) (it : Verdict) (old : StandingRows) (gave : Served) (new : StandingRows) → IsServed asked (Refuses OutOfMemory) old gave new → IsServed asked it old gave new
without_memory asked it old (served.Shown shown) new is = absurd (none_some is.0)
without_memory asked it old served.NothingDone new is = is

-- what is served of a fault is served of its verdict
pub served_fault : (asked : Op) (it : Verdict) (old : StandingRows) (fault : CallFault) (gave : Served) → (it ≡ fault_verdict fault) ⊎ (IsDoing asked it × (fault ≡ why.Op OutOfMemory)) → IsServed asked (fault_verdict fault) old gave old → IsServed asked it old gave old
served_fault asked it old fault gave (inl is) was = subst (λ (v : Verdict). IsServed asked v old gave old) (sym is) was
served_fault asked it old fault gave (inr wants) was =
    without_memory asked it old gave old (subst (λ (f : CallFault). IsServed asked (fault_verdict f) old gave old) wants.1 was)

-- the verdict on what is not open
pub closed_is : (policy : PolicyRows) (old : LedgerRows) (token : Option (List ℕ)) (asked : Op) (t : ℕ) → is_open (endpoint_of asked) ≡ false → closed_verdict policy old token asked t ≡ verdict_on policy old token asked t
closed_is policy old token asked t closed =
    sym (ap (λ (b : Bool). if b then opened (effect_of nothing_readable old.state asked t) else judged old.audit.limit policy (standing_of old) asked t (bearer_of policy token)) closed)

-- ---- where a ledger stands

module _ (granted : PairRow → Bool) (asked : Op) (t : ℕ) (old : LedgerRows) where
  -- the verdict where the ledger stands, with its own limit
  abbrev pub ledger_verdict : Verdict
  ledger_verdict = granted_verdict old.audit.limit granted (standing_of old) asked t

  -- where it was decided under this version and number of entries, and with this limit
  pub decided_here : (under : Under) (limit : ℕ) (outcome : Result Preparation CallFault) → under ≡ (standing_of old).under → limit ≡ old.audit.limit → IsDecided asked old.state (granted_verdict limit granted (record { under = under; state = old.state }) asked t) outcome → IsDecided asked old.state ledger_verdict outcome
  decided_here under limit outcome same most decided =
      subst (λ (k : ℕ). IsDecided asked old.state (granted_verdict k granted (standing_of old) asked t) outcome) most
      (subst (λ (u : Under). IsDecided asked old.state (granted_verdict limit granted (record { under = u; state = old.state }) asked t) outcome) same decided)

  -- a reply that changes nothing
  pub serves_reply : (under : Under) (prepared : Preparation) → under ≡ (standing_of old).under → IsDecided asked old.state ledger_verdict (Ok prepared) → is_edit prepared.edit ≡ false → IsServed asked ledger_verdict (standing_of old) (Shown (reply_told under prepared.reply)) (standing_of old)
  serves_reply under prepared same decided none =
      subst (λ (u : Under). IsServed asked ledger_verdict (standing_of old) (Shown (reply_told u prepared.reply)) (standing_of old)) (sym same)
      (serves_told asked ledger_verdict (standing_of old) prepared decided none)

  -- a change for which there is no memory
  pub wants_memory : (prepared : Preparation) → IsDecided asked old.state ledger_verdict (Ok prepared) → is_edit prepared.edit ≡ true → IsDecided asked old.state ledger_verdict (Err (why.Op OutOfMemory))
  wants_memory prepared decided some =
      inr (subst (IsDoing asked) (sym (change_verdict asked ledger_verdict (standing_of old) prepared decided some)) tt, refl)

  -- the state that the edit of a change makes is that which the operation leaves
  pub edit_is_after : (prepared : Preparation) → IsDecided asked old.state ledger_verdict (Ok prepared) → is_edit prepared.edit ≡ true → edited prepared.edit old.state ≡ after_op asked t old.state
  edit_is_after prepared decided some =
      change_is_after old.audit.limit granted (standing_of old) asked t (first_unmet granted (dag_of asked) (dag_ids old.state) (needs_for asked)) prepared.reply (edited prepared.edit old.state)
      (change_verdict asked ledger_verdict (standing_of old) prepared decided some)

  module _ (user : List ℕ) (prepared : Preparation) (decided : IsDecided asked old.state ledger_verdict (Ok prepared)) (some : is_edit prepared.edit ≡ true) (audit : AuditRows) (grown : audit ≡ with_entry old.audit (entry_of old (User user) (Did asked) t)) where
    -- the ledger after a change
    abbrev pub changed_ledger : LedgerRows
    changed_ledger = record old { state = edited prepared.edit old.state; audit = audit }

    -- it has one entry more, of the user's
    pub enters_for : IsExact old.state prepared.edit → has_room old.audit ≡ true → Enters (User user) (Did asked) t old changed_ledger
    enters_for exact room = record {
      room = room;
      after = edit_is_after prepared decided some;
      changed = λ same. false≢true (sym (exact.1 same) ∙ some);
      ledger = ap (λ (a : AuditRows). record old { state = edited prepared.edit old.state; audit = a }) grown;
    }

    -- and is told with its own entry counted
    pub serves_entered : (under : Under) → under ≡ record { version = old.version; seq = length audit.entries } → IsServed asked ledger_verdict (standing_of old) (Shown (reply_told under prepared.reply)) (standing_of changed_ledger)
    serves_entered under same =
        let count : length audit.entries ≡ length old.audit.entries + 1 =
        ap (λ (a : AuditRows). length a.entries) grown ∙ length-append old.audit.entries (entry_of old (User user) (Did asked) t ∷ []) in
        let counted : Under = record { version = old.version; seq = length old.audit.entries + 1 } in
        let told : IsServed asked ledger_verdict (standing_of old) (Shown (reply_told counted prepared.reply)) (record { under = counted; state = edited prepared.edit old.state }) =
        serves_change asked ledger_verdict (standing_of old) prepared decided (record { under = counted; state = edited prepared.edit old.state }) some refl in
        let here : IsServed asked ledger_verdict (standing_of old) (Shown (reply_told (record { version = old.version; seq = length audit.entries }) prepared.reply)) (standing_of changed_ledger) =
        subst (λ (n : ℕ). IsServed asked ledger_verdict (standing_of old) (Shown (reply_told (record { version = old.version; seq = n }) prepared.reply)) (record { under = record { version = old.version; seq = n }; state = edited prepared.edit old.state })) (sym count) told in
        subst (λ (u : Under). IsServed asked ledger_verdict (standing_of old) (Shown (reply_told u prepared.reply)) (standing_of changed_ledger)) (sym same) here
