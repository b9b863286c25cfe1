-- What is found after a change, for callers whose own facts rest on look-ups.
use Rattle.std.proofs.Common.{◌≡◌, ℕ, List, [], ◌∷◌, Bool, true, false, not, cond, Option, Some, None, refl, sym, ap, ◌∙◌}
use Rattle.std.specs.Ordering.{nat_cmp, is_eq, match_ordering}
use Rattle.std.specs.declared.cmp.Ordering.{Ordering}
use Rattle.std.specs.declared.cmp.Ordering.TheVariants.{Less, Equal, Greater}
use Rattle.std.specs.Cmp.Lexicographic.{slice_cmp, texts_ties, bytes_decides}
use Rattle.std.proofs.lemmas.Map.Lookups.{exact_bytes}
use Rattle.af_policy.specs.SharedRows.{found, same_key, with_row, without}

cond_twice : {X : Type 0} (b : Bool) (x y z : X) → cond b x z ≡ cond b x (cond b y z)
cond_twice true x y z = refl
cond_twice false x y z = refl

-- of two tests that do not both pass, it does not matter which is asked first
swapped : {X : Type 0} (a b : Bool) (x y z : X) → (a ≡ true → b ≡ true → true ≡ false) → cond a x (cond b y z) ≡ cond b y (cond a x z)
swapped true true x y z apart = let e : true ≡ false = apart refl refl in cc
swapped true false x y z apart = refl
swapped false b x y z apart = refl

module _ {T : Type 0} (key : T → List ℕ) where
  pub found_with : (row : T) (rows : List T) (k : List ℕ) → found key (with_row key rows row) k ≡ cond (same_key k (key row)) (Some row) (found key rows k)
  found_with row [] k = refl
  found_with row (x ∷ xs) k = step (slice_cmp nat_cmp (key row) (key x)) refl (found_with row xs k)
    where
      step : (o : Ordering) → slice_cmp nat_cmp (key row) (key x) ≡ o → found key (with_row key xs row) k ≡ cond (same_key k (key row)) (Some row) (found key xs k) → found key (match_ordering o (row ∷ x ∷ xs) (row ∷ xs) (x ∷ with_row key xs row)) k ≡ cond (same_key k (key row)) (Some row) (cond (same_key k (key x)) (Some x) (found key xs k))
      step Less e later = refl
      step Equal e later =
          cond_twice (same_key k (key row)) (Some row) (Some x) (found key xs k)
          ∙ ap (λ n. cond (same_key k (key row)) (Some row) (cond (same_key k n) (Some x) (found key xs k))) (exact_bytes (key row) (key x) e)
      step Greater e later =
          ap (cond (same_key k (key x)) (Some x)) later
          ∙ swapped (same_key k (key x)) (same_key k (key row)) (Some x) (Some row) (found key xs k)
          (λ is_x is_row.
          let same : key row ≡ key x = sym ((bytes_decides k (key row)).0 is_row) ∙ (bytes_decides k (key x)).0 is_x
          in sym ((bytes_decides (key row) (key x)).1 same) ∙ texts_ties (key row) (key x) ∙ ap is_eq e)

  pub found_without : (k : List ℕ) (rows : List T) (j : List ℕ) → found key (without key rows k) j ≡ cond (same_key k j) None (found key rows j)
  found_without k [] j = both (same_key k j)
    where
      both : (b : Bool) → found key [] j ≡ cond b None (found key [] j)
      both true = refl
      both false = refl
  found_without k (x ∷ xs) j = step (same_key k (key x)) (same_key k j) refl refl (found_without k xs j)
    where
      gone : same_key k (key x) ≡ true → same_key k j ≡ false → same_key j (key x) ≡ true → true ≡ false
      gone is_x other is_j =
          sym is_x ∙ ap (same_key k) (sym ((bytes_decides j (key x)).0 is_j)) ∙ other

      none : (b : Bool) (o : Option T) → (b ≡ true → true ≡ false) → o ≡ cond b (Some x) o
      none true o e = let f : true ≡ false = e refl in cc
      none false o e = refl

      kept : (b : Bool) → same_key j (key x) ≡ b → same_key k (key x) ≡ false → same_key k j ≡ true → cond b (Some x) None ≡ None
      kept true is_j not_x is_k =
          let f : true ≡ false = sym is_k ∙ ap (same_key k) ((bytes_decides j (key x)).0 is_j) ∙ not_x
          in cc
      kept false is_j not_x is_k = refl

      step : (b d : Bool) → same_key k (key x) ≡ b → same_key k j ≡ d → found key (without key xs k) j ≡ cond d None (found key xs j) → found key (cond (not b) (x ∷ without key xs k) (without key xs k)) j ≡ cond d None (cond (same_key j (key x)) (Some x) (found key xs j))
      step true true e f later = later
      step true false e f later = later ∙ none (same_key j (key x)) (found key xs j) (gone e f)
      step false true e f later = ap (cond (same_key j (key x)) (Some x)) later ∙ kept (same_key j (key x)) refl e f
      step false false e f later = ap (cond (same_key j (key x)) (Some x)) later
