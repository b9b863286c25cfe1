-- What is served of a request, and the ledger after it.
use Rattle.std.proofs.Common.{◌≡◌, ◌∙◌, inl, inr, refl, sym, ap, subst, ℕ, suc, ◌+◌, List, [], ◌∷◌, length, arith}
use Rattle.std.proofs.lemmas.List.{length-append}
use Rattle.std.specs.Prelude.{Option, Some, None}
use Rattle.af_policy.specs.Identity.{bearer_of}
use Rattle.af_sched.specs.State.{StateRows}
use Rattle.af_ops.specs.declared.op.Op.{Op}
use Rattle.af_ops.specs.declared.served.Served.{Served}
use Rattle.af_ops.specs.declared.served.Served.TheVariants as served
use Rattle.af_ops.specs.declared.shown_answer.Shown.{Shown}
use Rattle.af_ops.specs.Served.{IsChange, IsServed, left_by}
use Rattle.af_ops.specs.Standings.{StandingRows}
use Rattle.af_ops.specs.Verdicts.{Verdict, Open, Stranger, Lacks, Refuses, Tells, Changes}
use Rattle.af_audit.specs.declared.act.Act.TheVariants.{Did}
use Rattle.af_audit.specs.declared.actor.Actor.TheVariants.{User}
use Rattle.af_audit.specs.Answered.{EntersFor, MayEnter, entered_for, ledger_left, standing_of, verdict_on}
use Rattle.af_audit.specs.Ledgers.{LedgerRows, entered, entry_of}
use Rattle.af_audit.specs.Laws.{ChangesNameTheUser, NothingDoneLeavesTheLedger, VerdictsLeaveOneLedger, WhatIsNoChangeLeavesTheLedger}

-- ---- a verdict that is no change

kept_by : (it : Verdict) (standing : StandingRows) → (IsChange it → ⊥) → left_by it standing ≡ standing
kept_by (Open reply) standing none = refl
kept_by Stranger standing none = refl
kept_by (Lacks need) standing none = refl
kept_by (Refuses why) standing none = refl
kept_by (Tells reply) standing none = refl
kept_by (Changes reply next) standing none = absurd (none tt)

pub served_none : (asked : Op) (it : Verdict) (old new : StandingRows) (gave : Served) → IsServed asked it old gave new → (IsChange it → ⊥) → new ≡ old
served_none asked it old new (served.Shown shown) is none = is.1 ∙ kept_by it old none
served_none asked it old new served.NothingDone is none = is

-- ---- one entry is one more

one_more : (asked : Op) (t : ℕ) (who : Option (List ℕ)) (old new : LedgerRows) → EntersFor who asked t old new → length new.audit.entries ≡ suc (length old.audit.entries)
one_more asked t None old new enters = absurd enters
one_more asked t (Some user) old new enters =
    let grown : length new.audit.entries ≡ length (entered old (User user) (Did asked) t new.state).audit.entries = ap (λ (l : LedgerRows). length l.audit.entries) enters.ledger in
    let more : length (entered old (User user) (Did asked) t new.state).audit.entries ≡ length old.audit.entries + 1 = length-append old.audit.entries (entry_of old (User user) (Did asked) t ∷ []) in
    omega (arith, grown, more)

stays : (asked : Op) (t : ℕ) (who : Option (List ℕ)) (old new : LedgerRows) → standing_of new ≡ standing_of old → MayEnter who asked t old new → new ≡ old
stays asked t who old new same (inl is) = is
stays asked t who old new same (inr enters) =
    let count : length new.audit.entries ≡ length old.audit.entries = ap (λ (s : StandingRows). s.under.seq) same in
    let more : length new.audit.entries ≡ suc (length old.audit.entries) = one_more asked t who old new enters in
    absurd (omega (arith, count, more))

pub no_change : WhatIsNoChangeLeavesTheLedger
no_change policy token asked t old new gave is entry none =
    stays asked t (bearer_of policy token) old new (served_none asked (verdict_on policy old token asked t) (standing_of old) (standing_of new) gave is none) entry

-- ---- a change

the_entry : (asked : Op) (t : ℕ) (who : Option (List ℕ)) (old new : LedgerRows) (next : StateRows) → new.state ≡ next → EntersFor who asked t old new → (user : List ℕ) × (who ≡ Some user) × (new ≡ entered old (User user) (Did asked) t next)
the_entry asked t None old new next made enters = absurd enters
the_entry asked t (Some user) old new next made enters = (user, refl, enters.ledger ∙ ap (entered old (User user) (Did asked) t) made)

entry_of_change : (asked : Op) (t : ℕ) (who : Option (List ℕ)) (old new : LedgerRows) (next : StateRows) → length new.audit.entries ≡ length old.audit.entries + 1 → new.state ≡ next → MayEnter who asked t old new → (user : List ℕ) × (who ≡ Some user) × (new ≡ entered old (User user) (Did asked) t next)
entry_of_change asked t who old new next more made (inl is) =
    let same : length new.audit.entries ≡ length old.audit.entries = ap (λ (l : LedgerRows). length l.audit.entries) is in
    absurd (omega (arith, more, same))
entry_of_change asked t who old new next more made (inr enters) = the_entry asked t who old new next made enters

pub names_the_user : ChangesNameTheUser
names_the_user policy token asked t old new shown reply next is entry changes =
    let told : IsServed asked (Changes reply next) (standing_of old) (served.Shown shown) (standing_of new) = subst (λ (v : Verdict). IsServed asked v (standing_of old) (served.Shown shown) (standing_of new)) changes is in
    entry_of_change asked t (bearer_of policy token) old new next (ap (λ (s : StandingRows). s.under.seq) told.1) (ap (λ (s : StandingRows). s.state) told.1) entry

-- ---- the ledger that is left

pub nothing_done : NothingDoneLeavesTheLedger
nothing_done policy token asked t old new is entry = stays asked t (bearer_of policy token) old new is entry

entry_left : (asked : Op) (t : ℕ) (who : Option (List ℕ)) (old new : LedgerRows) (next : StateRows) → (user : List ℕ) × (who ≡ Some user) × (new ≡ entered old (User user) (Did asked) t next) → new ≡ entered_for who asked t old next
entry_left asked t who old new next is =
    subst (λ (w : Option (List ℕ)). new ≡ entered_for w asked t old next) (sym is.1) is.2

left_of : (asked : Op) (t : ℕ) (who : Option (List ℕ)) (old new : LedgerRows) (shown : Shown) (it : Verdict) → IsServed asked it (standing_of old) (served.Shown shown) (standing_of new) → MayEnter who asked t old new → new ≡ ledger_left who asked t old it
left_of asked t who old new shown (Open reply) is entry = stays asked t who old new is.1 entry
left_of asked t who old new shown Stranger is entry = stays asked t who old new is.1 entry
left_of asked t who old new shown (Lacks need) is entry = stays asked t who old new is.1 entry
left_of asked t who old new shown (Refuses why) is entry = stays asked t who old new is.1 entry
left_of asked t who old new shown (Tells reply) is entry = stays asked t who old new is.1 entry
left_of asked t who old new shown (Changes reply next) is entry =
    entry_left asked t who old new next
    (entry_of_change asked t who old new next (ap (λ (s : StandingRows). s.under.seq) is.1) (ap (λ (s : StandingRows). s.state) is.1) entry)

pub leave_one : VerdictsLeaveOneLedger
leave_one policy token asked t old new shown is entry =
    left_of asked t (bearer_of policy token) old new shown (verdict_on policy old token asked t) is entry
