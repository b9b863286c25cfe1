-- What holds of the items that are left holds of all, one item after another.
use Rattle.std.proofs.Common.{◌≡◌, ◌<◌, ◌≤◌, ◌+◌, ℕ, List, [], ◌∷◌, length, get_or, drop, subst, sym, ap, ◌∙◌}
use Rattle.std.proofs.lemmas.List.{at_drop_all, at_drop_more}

module _ {X : Type 0} (holds : List X → Type 0) (xs : List X) (i : ℕ) (all : holds (drop i xs) → holds xs) where
  pub more_hold : (x : X) → i < length xs → x ≡ get_or xs i x → (holds (drop (i + 1) xs) → holds (x ∷ drop (i + 1) xs)) → holds (drop (i + 1) xs) → holds xs
  more_hold x inside is step rest =
      all (subst holds (ap (λ (y : X). y ∷ drop (i + 1) xs) is ∙ sym (at_drop_more (λ (ys : List X). ys) xs i x inside)) (step rest))

  pub all_hold : length xs ≤ i → holds [] → holds xs
  all_hold past none = all (subst holds (sym (at_drop_all (λ (ys : List X). ys) xs i past)) none)
