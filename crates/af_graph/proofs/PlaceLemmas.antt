-- Facts on the first place that passes a test.
use Rattle.std.proofs.Common.{◌≡◌, ◌<◌, ◌≤◌, ◌+◌, ℕ, Bool, true, false, ltb, cond, List, [], ◌∷◌, Some, None, length, get_or, sym, refl, ap, ◌∙◌, subst, ⊎_elim, arith, zero, suc}
use Rattle.std.specs.List.{find, position, position_or_len, range_with_len, slice_get}
use Rattle.std.specs.Option.{option_map_or}
use Rattle.std.proofs.lemmas.Bool.{cases_Bool, cases_eq, cases_lt, cond-true, cond-false, lt-ltb, le-ltb}
use Rattle.std.proofs.lemmas.Option.{none-some, same_Some, slice_get-get_or}
use Rattle.std.proofs.lemmas.List.Sums.{fails_before_first, passes_at_first}

-- the first number from a on, of n, that passes
pub find_first : (p : ℕ → Bool) (a n i : ℕ) → a ≤ i → i < a + n → ((k : ℕ) → a ≤ k → k < i → p k ≡ false) → p i ≡ true → find p (range_with_len a n) ≡ Some i
find_first p a zero i from below before here = absurd (omega arith)
find_first p a (suc n) i from below before here =
    ⊎_elim
    (λ (e : a ≡ i). cond-true (p a) (Some a) (find p (range_with_len (a + 1) n)) (subst (λ k. p k ≡ true) (sym e) here) ∙ ap Some e)
    (λ (ne : a ≡ i → ⊥). cond-false (p a) (Some a) (find p (range_with_len (a + 1) n)) (before a (omega arith) (omega arith)) ∙ find_first p (a + 1) n i (omega arith) (omega arith) (λ k ge lt. before k (omega arith) lt) here)
    (cases_eq a i)

-- none of n numbers from a on passes
pub find_none : (p : ℕ → Bool) (a n : ℕ) → ((k : ℕ) → a ≤ k → k < a + n → p k ≡ false) → find p (range_with_len a n) ≡ None
find_none p a zero none = refl
find_none p a (suc n) none =
    cond-false (p a) (Some a) (find p (range_with_len (a + 1) n)) (none a (omega arith) (omega arith))
    ∙ find_none p (a + 1) n (λ k ge lt. none k (omega arith) (omega arith))

-- what is found passes, and nothing before it does
pub find_some : (p : ℕ → Bool) (a n i : ℕ) → find p (range_with_len a n) ≡ Some i → (a ≤ i) × (i < a + n) × (p i ≡ true) × ((k : ℕ) → a ≤ k → k < i → p k ≡ false)
find_some p a zero i e = absurd (none-some i e)
find_some p a (suc n) i e =
    ⊎_elim
    (λ (yes : p a ≡ true). let here : a ≡ i = same_Some a i (sym (cond-true (p a) (Some a) (find p (range_with_len (a + 1) n)) yes) ∙ e) in (omega arith, omega arith, subst (λ k. p k ≡ true) here yes, λ k ge lt. absurd (omega arith)))
    (λ (no : p a ≡ false). let rest = find_some p (a + 1) n i (sym (cond-false (p a) (Some a) (find p (range_with_len (a + 1) n)) no) ∙ e) in (omega (arith, rest.0), omega (arith, rest.1), rest.2, λ k ge lt. ⊎_elim (λ (same : k ≡ a). subst (λ j. p j ≡ false) (sym same) no) (λ (other : k ≡ a → ⊥). rest.3 k (omega arith) lt) (cases_eq k a)))
    (cases_Bool (p a))

-- where nothing is found nothing passes
pub find_nothing : (p : ℕ → Bool) (a n : ℕ) → find p (range_with_len a n) ≡ None → (k : ℕ) → a ≤ k → k < a + n → p k ≡ false
find_nothing p a zero e k ge lt = absurd (omega arith)
find_nothing p a (suc n) e k ge lt =
    ⊎_elim
    (λ (yes : p a ≡ true). absurd (none-some a (sym e ∙ cond-true (p a) (Some a) (find p (range_with_len (a + 1) n)) yes)))
    (λ (no : p a ≡ false). ⊎_elim (λ (same : k ≡ a). subst (λ j. p j ≡ false) (sym same) no) (λ (other : k ≡ a → ⊥). find_nothing p (a + 1) n (sym (cond-false (p a) (Some a) (find p (range_with_len (a + 1) n)) no) ∙ e) k (omega arith) (omega arith)) (cases_eq k a))
    (cases_Bool (p a))

-- two tests that agree find the same
pub find_same : (p r : ℕ → Bool) (a n : ℕ) → ((k : ℕ) → a ≤ k → k < a + n → p k ≡ r k) → find p (range_with_len a n) ≡ find r (range_with_len a n)
find_same p r a zero agree = refl
find_same p r a (suc n) agree =
    ap (λ b. cond b (Some a) (find p (range_with_len (a + 1) n))) (agree a (omega arith) (omega arith))
    ∙ ap (λ o. cond (r a) (Some a) o) (find_same p r (a + 1) n (λ k ge lt. agree k (omega arith) (omega arith)))

position_of_some : {X : Type 0} (p : X → Bool) (xs : List X) (d : X) → position p xs ≡ find (λ k. option_map_or p (slice_get xs k) false) (range_with_len 0 (length xs))
position_of_some p xs d =
    ⊎_elim
    (λ (lt : position_or_len p xs < length xs). cond-true (ltb (position_or_len p xs) (length xs)) (Some (position_or_len p xs)) None (lt-ltb (position_or_len p xs) (length xs) lt) ∙ sym (find_first (λ k. option_map_or p (slice_get xs k) false) 0 (length xs) (position_or_len p xs) (omega arith) (omega arith) (λ k ge below. reads k (omega arith) ∙ fails_before_first p xs k d below) (reads (position_or_len p xs) lt ∙ passes_at_first p xs d lt)))
    (λ (ge : length xs ≤ position_or_len p xs). cond-false (ltb (position_or_len p xs) (length xs)) (Some (position_or_len p xs)) None (le-ltb (position_or_len p xs) (length xs) ge) ∙ sym (find_none (λ k. option_map_or p (slice_get xs k) false) 0 (length xs) (λ k _ below. reads k (omega arith) ∙ fails_before_first p xs k d (omega arith))))
    (cases_lt (position_or_len p xs) (length xs))
  where
    reads : (k : ℕ) → k < length xs → option_map_or p (slice_get xs k) false ≡ p (get_or xs k d)
    reads k below = ap (λ o. option_map_or p o false) (slice_get-get_or xs k d below)

-- the first element that passes stands at the first place that does
pub position_is : {X : Type 0} (p : X → Bool) (xs : List X) → position p xs ≡ find (λ k. option_map_or p (slice_get xs k) false) (range_with_len 0 (length xs))
position_is p [] = refl
position_is p (x ∷ xs) = position_of_some p (x ∷ xs) x
