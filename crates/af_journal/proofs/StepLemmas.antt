-- What a store's laws say of a journal, before and after a call.
use Rattle.std.proofs.Common.{◌≡◌, ℕ, true, false, List, ◌++◌, length, refl, sym, true≢false, IsTrue, ◌∙◌, ap, Result, Ok, Err, OnErr}
use Rattle.sqlite_trees.specs.Tree.{Trees}
use Rattle.sqlite_trees.specs.View.{View, IsClean, doubt, Commits, IsRolledBack}
use Rattle.af_journal.specs.Lines.{Entry, HasEntries}
use Rattle.af_journal.specs.Rest.{KeepsCommit, IsAtRest}
use Rattle.af_journal.proofs.RowLemmas.{same_len}

pub on_err : {T E : Type 0} {X : Type 0} (r : Result T E) → X → OnErr r X
on_err (Ok a) x = tt
on_err (Err e) x = x

-- a store that is not clean is shut, and one that is shut is broken
abbrev pub Laws : View → Type 0
Laws v = (v.is_clean ≡ false → v.is_open ≡ false) × (v.is_open ≡ false → IsTrue v.is_broken)

pub open_if_sound : (v : View) → Laws v → v.is_broken ≡ false → IsTrue v.is_open
open_if_sound v laws sound = elim v.is_open as (λ b. (b ≡ false → IsTrue v.is_broken) → IsTrue b) [ true ↦ λ _. refl | false ↦ λ h. absurd (true≢false (sym (h refl) ∙ sound)) ] laws.1

pub clean_if_open : (v : View) → Laws v → IsTrue v.is_open → IsClean v
unfolding doubt
clean_if_open v laws is_open = elim v.is_clean as (λ b. (b ≡ false → v.is_open ≡ false) → doubt b ≡ 0) [ true ↦ λ _. refl | false ↦ λ h. absurd (true≢false (sym is_open ∙ h refl)) ] laws.0

module _ (old mid new : View) (count : ℕ) (mid_laws : Laws mid) (new_laws : Laws new) (rest : IsAtRest old count) (kept : IsClean mid → IsTrue mid.is_open → KeepsCommit old mid) where
  -- after a rollback, or a commit that failed
  pub undone_keeps : IsRolledBack mid new → IsTrue new.is_open → KeepsCommit old new
  undone_keeps undone is_open =
      let back = undone.kept (clean_if_open new new_laws is_open) in
      let was = back.was_open is_open in
      let k = kept (clean_if_open mid mid_laws was) was in
      (k.0, back.committed is_open ∙ k.1)

  pub undone_rests : IsRolledBack mid new → IsAtRest new count
  undone_rests undone = record {
    sound = λ is_open. (undone.undone is_open).1;
    clean = λ is_open. (undone.undone is_open).0 ∙ sym ((undone.kept (clean_if_open new new_laws is_open)).committed is_open);
    held = λ is_open. let k = undone_keeps undone is_open in let h = rest.held k.0 in (h.0, ap (λ db. db 0) k.1 ∙ h.1, h.2);
  }

  module _ (more : ℕ) (entries : List Entry)
      (adds : (before : List Entry) → count ≡ length before → HasEntries old.trees before → IsClean mid → HasEntries mid.trees (before ++ entries) × (more ≡ length (before ++ entries))) where
    -- what the transaction sees, if it is sound
    pub sees : IsTrue mid.is_open → (before : List Entry) → HasEntries old.committed before
        → IsTrue old.is_open × HasEntries mid.trees (before ++ entries) × (more ≡ length (before ++ entries))
    sees is_open before has =
        let clean = clean_if_open mid mid_laws is_open in
        let was = (kept clean is_open).0 in
        let h = rest.held was in
        let number : count ≡ length before = h.2 ∙ (same_len h.0 before (sym h.1 ∙ has)) in
        let all = adds before number (ap (λ db. db 0) (rest.clean was) ∙ has) clean in
        (was, all.0, all.1)

    pub committed_rests : (IsClean new → Commits mid new) → IsAtRest new more
    committed_rests commits = record {
      sound = λ is_open. let it = commits (clean_if_open new new_laws is_open) in ap (λ v. v.is_broken) it.is ∙ it.sound;
      clean = λ is_open. let it = commits (clean_if_open new new_laws is_open) in ap (λ v. v.trees) it.is ∙ sym (ap (λ v. v.committed) it.is);
      held = λ is_open.
          let it = commits (clean_if_open new new_laws is_open) in
          let sound = open_if_sound mid mid_laws it.sound in
          let was = (kept (clean_if_open mid mid_laws sound) sound).0 in
          let h = rest.held was in
          let all = sees sound h.0 h.1 in
          (h.0 ++ entries, ap (λ v. v.committed 0) it.is ∙ all.1, all.2);
    }

    pub stays_open : (IsClean new → Commits mid new) → IsClean new → IsTrue new.is_open
    stays_open commits clean =
        let it = commits clean in
        ap (λ v. v.is_open) it.is ∙ open_if_sound mid mid_laws it.sound

    pub committed_open : (IsClean new → Commits mid new) → IsTrue new.is_open → IsTrue old.is_open
    committed_open commits is_open =
        let it = commits (clean_if_open new new_laws is_open) in
        let sound = open_if_sound mid mid_laws it.sound in
        (kept (clean_if_open mid mid_laws sound) sound).0

    pub committed_adds : (IsClean new → Commits mid new) → (before : List Entry) → HasEntries old.committed before → IsTrue new.is_open
        → IsTrue old.is_open × HasEntries new.committed (before ++ entries)
    committed_adds commits before has is_open =
        let it = commits (clean_if_open new new_laws is_open) in
        let all = sees (open_if_sound mid mid_laws it.sound) before has in
        (all.0, ap (λ v. v.committed 0) it.is ∙ all.1)

-- a store that was read whole
module _ (old new : View) (new_laws : Laws new) (entries : List Entry) (fresh : IsTrue old.is_open → (old.trees ≡ old.committed) × (old.is_broken ≡ false))
    (same : IsClean new → new ≡ record old { cursors = new.cursors }) (read : IsClean new → HasEntries old.trees entries) where
  pub read_same : IsTrue new.is_open → new.committed ≡ old.committed
  read_same is_open = ap (λ v. v.committed) (same (clean_if_open new new_laws is_open))

  read_fresh : IsTrue new.is_open → (old.trees ≡ old.committed) × (old.is_broken ≡ false)
  read_fresh is_open = fresh (sym (ap (λ v. v.is_open) (same (clean_if_open new new_laws is_open))) ∙ is_open)

  pub read_lines : IsTrue new.is_open → HasEntries new.committed entries
  read_lines is_open = ap (λ (db : Trees). db 0) (read_same is_open ∙ sym (read_fresh is_open).0) ∙ read (clean_if_open new new_laws is_open)

  pub read_rests : (count : ℕ) → count ≡ length entries → IsAtRest new count
  read_rests count is = record {
    sound = λ is_open. ap (λ v. v.is_broken) (same (clean_if_open new new_laws is_open)) ∙ (read_fresh is_open).1;
    clean = λ is_open. ap (λ v. v.trees) (same (clean_if_open new new_laws is_open)) ∙ (read_fresh is_open).0 ∙ sym (read_same is_open);
    held = λ is_open. (entries, read_lines is_open, is);
  }
