-- What a journal shows, from what it holds.
use Rattle.std.proofs.Common.{◌≡◌, ℕ, List, ◌++◌, length, Result, Ok, Err, IfOk, IfErr, IsTrue, sym, ap, subst, ◌∙◌, arith, inl, inr, ◌⊎◌}
use Rattle.sqlite_disk.specs.Disk.{MoreFaults}
use Rattle.sqlite_trees.specs.Tree.{Trees}
use Rattle.sqlite_trees.specs.View.{View, IsClean, IsQuiet, HasCause as HasCauseIn}
use Rattle.sqlite_trees.specs.declared.error.StoreError.{StoreError}
use Rattle.sqlite_trees.specs.declared.error.StoreError.TheVariants.{OutOfMemory, Io, Corrupt, Full, Broken, Unstorable}
use Rattle.sqlite_trees.specs.declared.store.Store.{Ghosts}
use Rattle.af_journal.specs.Lines.{Entry, HasEntries, rows_after, entries_in}
use Rattle.af_journal.specs.Rest.{IsAtRest, IsCause}
use Rattle.af_journal.specs.Shown.{Shown, GoesOn, HasCause, IsHonest}
use Rattle.af_journal.proofs.RowLemmas.{entries_are}
use Rattle.af_journal.proofs.StepLemmas.{Laws, clean_if_open}

-- a fact of a success, from two others
pub both_ok : {T E : Type 0} {P Q R : T → Type 0} (r : Result T E) → ((x : T) → P x → Q x → R x) → IfOk r P → IfOk r Q → IfOk r R
both_ok (Ok x) f p q = f x p q
both_ok (Err e) f p q = tt

-- a fact of a failure, from another
pub err_then : {T E : Type 0} {P Q : E → Type 0} (r : Result T E) → ((e : E) → P e → Q e) → IfErr r P → IfErr r Q
err_then (Ok x) f p = tt
err_then (Err e) f p = f e p

abbrev pub shown : {S : Type 0} → Ghosts S → S → Shown S
shown g s = record { is_open = (g.view s).is_open; entries = entries_in (g.view s).committed; store = s }

-- the store is as it was, if it is open still
pub stays_at_rest : (old new : View) (count : ℕ) → (IsTrue new.is_open → new ≡ old) → IsAtRest old count → IsAtRest new count
stays_at_rest old new count is rest = record {
  sound = λ o. let same = is o in ap (λ v. v.is_broken) same ∙ rest.sound (sym (ap (λ v. v.is_open) same) ∙ o);
  clean = λ o. let same = is o in ap (λ v. v.trees) same ∙ rest.clean (sym (ap (λ v. v.is_open) same) ∙ o) ∙ sym (ap (λ v. v.committed) same);
  held = λ o. let same = is o in let h = rest.held (sym (ap (λ v. v.is_open) same) ∙ o) in (h.0, ap (λ v. v.committed 0) same ∙ h.1, h.2);
}

cause_of : (v : View) (F : Type 0) (e : StoreError) → HasCauseIn v F ⊥ e → IsCause F e
cause_of v F OutOfMemory h = tt
cause_of v F Io h = h
cause_of v F Corrupt h = h
cause_of v F Full h = h
cause_of v F Broken h = tt
cause_of v F Unstorable h = tt

-- the committed rows are those of the entries that are shown
pub held_entries : (v : View) (count : ℕ) → IsAtRest v count → IsTrue v.is_open → HasEntries v.committed (entries_in v.committed)
held_entries v count rest is_open = let h = rest.held is_open in h.1 ∙ ap (rows_after 0) (sym (entries_are v.committed h.0 h.1))

-- a call that is quiet goes on
pub goes_on : {S : Type 0} (g : Ghosts S) (old new : Shown S) → (IsTrue old.is_open → IsTrue (g.view old.store).is_open) → (IsTrue (g.view new.store).is_open → IsTrue new.is_open)
    → IsQuiet g.view g.faults g.recovers g.is_shielded old.store new.store → GoesOn g old new
goes_on g old new was now quiet = record {
  counts = quiet.counts;
  honest = λ clean. omega (arith, quiet.clean, clean);
  shield = quiet.shield;
  shuts = λ clean is_open. elim (quiet.closes clean (was is_open)) [ inl still ↦ inl (now still) | inr failed ↦ inr failed ];
}

module _ {S : Type 0} (g : Ghosts S) (s : S) (count : ℕ) (it : Shown S) (is : shown g s ≡ it) (rest : IsAtRest (g.view s) count) where
  pub seen_open : IsTrue it.is_open → IsTrue (g.view s).is_open
  seen_open is_open = ap (λ v. v.is_open) is ∙ is_open

  pub counts : IsTrue it.is_open → count ≡ length it.entries
  counts is_open = let h = rest.held (seen_open is_open) in h.2 ∙ ap length (sym (entries_are (g.view s).committed h.0 h.1) ∙ ap (λ v. v.entries) is)

  pub shows_entries : IsTrue it.is_open → HasEntries (g.view s).committed it.entries
  shows_entries is_open = held_entries (g.view s) count rest (seen_open is_open) ∙ ap (λ v. rows_after 0 v.entries) is

  pub leaves : ((s : S) (db : Trees) → IsTrue (g.view s).is_open → g.recovers s db → db ≡ (g.view s).committed)
      → IsTrue it.is_open → (db : Trees) → g.recovers it.store db → HasEntries db it.entries
  leaves settled is_open db left =
      let may : g.recovers s db = subst (λ v. g.recovers v.store db) (sym is) left in
      ap (λ (d : Trees). d 0) (settled s db (seen_open is_open) may) ∙ shows_entries is_open

  pub honest_if_open : Laws (g.view s) → IsTrue it.is_open → IsHonest g it
  honest_if_open laws is_open = subst (λ v. IsClean (g.view v.store)) is (clean_if_open (g.view s) laws (seen_open is_open))

  -- what a commit adds, in the words of the journal
  pub adds : (db : Trees) (more : List Entry) → IsTrue (g.view s).is_open → ((before : List Entry) → HasEntries (g.view s).committed before → HasEntries db (before ++ more))
      → IsTrue it.is_open × (entries_in db ≡ it.entries ++ more)
  adds db more was all =
      let is_open : IsTrue it.is_open = sym (ap (λ v. v.is_open) is) ∙ was in
      (is_open, entries_are db (it.entries ++ more) (all it.entries (shows_entries is_open)))

  -- what a crash leaves, in the words of the journal
  pub leaves_more : (db : Trees) (more : List Entry)
      → g.recovers s db ⊎ ((before : List Entry) × IsTrue (g.view s).is_open × HasEntries (g.view s).committed before × HasEntries db (before ++ more))
      → g.recovers it.store db ⊎ (IsTrue it.is_open × HasEntries db (it.entries ++ more))
  leaves_more db more (inl old) = inl (subst (λ v. g.recovers v.store db) is old)
  leaves_more db more (inr all) =
      let same : all.0 ≡ it.entries = sym (entries_are (g.view s).committed all.0 all.2) ∙ ap (λ v. v.entries) is in
      inr (sym (ap (λ v. v.is_open) is) ∙ all.1, all.3 ∙ ap (λ entries. rows_after 0 (entries ++ more)) same)

  -- a call of the store that is quiet, in the words of the journal
  module _ (next : S) (quiet : IsQuiet g.view g.faults g.recovers g.is_shielded s next) where
    pub goes : GoesOn g it (shown g next)
    goes = subst (λ v. GoesOn g v (shown g next)) is (goes_on g (shown g s) (shown g next) (λ o. o) (λ o. o) quiet)

    pub leaves_no_more : (db : Trees) → g.recovers next db → g.recovers it.store db
    leaves_no_more db left = subst (λ v. g.recovers v.store db) is (quiet.outcomes db left)

  pub causes : {T : Type 0} (r : Result T StoreError) (next : S) → (IsClean (g.view next) → IfErr r (HasCauseIn (g.view s) (MoreFaults (g.faults s) (g.faults next)) ⊥))
      → IfErr r (HasCause g it (shown g next))
  causes (Ok x) next cause = tt
  causes (Err e) next cause = λ clean. subst (λ v. IsCause (MoreFaults (g.faults v.store) (g.faults next)) e) is (cause_of (g.view s) (MoreFaults (g.faults s) (g.faults next)) e (cause clean))
