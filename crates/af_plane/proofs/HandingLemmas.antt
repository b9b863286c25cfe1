-- A taker of the entries that are left has taken all, one entry after another.
use Rattle.std.proofs.Common.{◌≡◌, ◌<◌, ◌≤◌, ◌+◌, ℕ, List, ◌∷◌, length, get_or, drop, subst, sym, ap, ◌∙◌, refl}
use Rattle.std.proofs.lemmas.List.{at_drop_all, at_drop_more}
use Rattle.af_audit.specs.declared.entry.Entry.{Entry}
use Rattle.af_plane.specs.Handings.{TakesEach}

module _ {T : Type 0} (takes : T → Entry → T → Type 0) (entries : List Entry) (i : ℕ) where
  pub more_taken : (entry : Entry) (was mid last : T) → i < length entries → entry ≡ get_or entries i entry → takes was entry mid → TakesEach takes (drop (i + 1) entries) mid last → TakesEach takes (drop i entries) was last
  more_taken entry was mid last inside is took rest =
      subst (λ (es : List Entry). TakesEach takes es was last)
      (ap (λ (y : Entry). y ∷ drop (i + 1) entries) is ∙ sym (at_drop_more (λ (ys : List Entry). ys) entries i entry inside)) (mid, (took, rest))

  pub all_taken : (now : T) → length entries ≤ i → TakesEach takes (drop i entries) now now
  all_taken now past = subst (λ (es : List Entry). TakesEach takes es now now) (sym (at_drop_all (λ (ys : List Entry). ys) entries i past)) refl
