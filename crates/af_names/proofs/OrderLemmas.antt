-- Rows in strict order of a key: where a search ends, and what is there.
use Rattle.std.proofs.Common.{◌≡◌, ◌≢◌, refl, sym, ◌∙◌, ap, subst, ℕ, zero, suc, ◌<◌, ◌≤◌, List, [], ◌∷◌, ◌++◌, map, length, get_or, set, take, drop, Bool, true, false, cond, not, ◌||◌, ⊎_elim, arith, Ordering}
use Rattle.std.specs.Prelude.{filter, find, Some, None, All}
use Rattle.std.specs.List.{list_any, AllWithin, AllByRecursion}
use Rattle.std.specs.List.Sorted.{IsStrictlySortedBy, IsNonDecreasingBy, IsPartitionPoint}
use Rattle.std.specs.Ordering.{is_lt, is_eq, ordering_index, ordering_reverse}
use Rattle.std.specs.declared.cmp.Ordering.TheVariants.{Less, Equal, Greater}
use Rattle.std.specs.Cmp.{IsTotalOrder}
use Rattle.std.proofs.lemmas.Cmp.{alike_right}
use Rattle.std.proofs.lemmas.Map.Keys.{Less-from_sorted}
use Rattle.std.proofs.lemmas.Bool.{cases_lt}
use Rattle.std.proofs.lemmas.List.Elements.{All-append, All-take, All-drop, All-cons}
use Rattle.std.proofs.lemmas.List.Folds.{list_any-append}
use Rattle.std.proofs.Math.ListN.{get_or-map, length-map, take-append-drop}

or_true : (b : Bool) → (b || true) ≡ true
or_true true = refl
or_true false = refl

either : (a b c : Bool) → (a || c) ≡ true → (a || (b || c)) ≡ true
either true b c some = refl
either false b c some = rw some (or_true b)

index_most : (r : Ordering) → ordering_index r ≤ 2
index_most Less = omega arith
index_most Equal = omega arith
index_most Greater = omega arith

-- ---- the rows that pass a test
module _ {X : Type 0} (test : X → Bool) where
  -- no row passes
  pub list_any-none : (xs : List X) → ((j : ℕ) (d : X) → j < length xs → test (get_or xs j d) ≡ false) → list_any test xs ≡ false
  list_any-none [] none = refl
  list_any-none (x ∷ xs) none =
      rw (none 0 x (omega arith)) (list_any-none xs (λ j d h. none (suc j) d (omega arith)))

  pub map-none : (g : X → X) (xs : List X) → ((j : ℕ) (d : X) → j < length xs → test (get_or xs j d) ≡ false) → map (λ x. cond (test x) (g x) x) xs ≡ xs
  map-none g [] none = refl
  map-none g (x ∷ xs) none =
      rw (none 0 x (omega arith)) (ap (λ (r : List X). x ∷ r) (map-none g xs (λ j d h. none (suc j) d (omega arith))))

  pub filter-none : (xs : List X) → ((j : ℕ) (d : X) → j < length xs → test (get_or xs j d) ≡ false) → filter (λ x. not (test x)) xs ≡ xs
  filter-none [] none = refl
  filter-none (x ∷ xs) none =
      rw (none 0 x (omega arith)) (ap (λ (r : List X). x ∷ r) (filter-none xs (λ j d h. none (suc j) d (omega arith))))

  pub find-none : (xs : List X) → ((j : ℕ) (d : X) → j < length xs → test (get_or xs j d) ≡ false) → find test xs ≡ None
  find-none [] none = refl
  find-none (x ∷ xs) none =
      rw (none 0 x (omega arith)) (find-none xs (λ j d h. none (suc j) d (omega arith)))

  -- the row at i passes, and no other
  pub find-only : (xs : List X) (i : ℕ) (d : X) → i < length xs → ((e : X) → test (get_or xs i e) ≡ true) → ((j : ℕ) (e : X) → j < length xs → j ≢ i → test (get_or xs j e) ≡ false) → find test xs ≡ Some (get_or xs i d)
  find-only [] i d within here alone = absurd (omega arith)
  find-only (x ∷ xs) zero d within here alone = rw (here x) refl
  find-only (x ∷ xs) (suc i) d within here alone =
      rw (alone 0 x (omega arith) (omega arith)) (find-only xs i d (omega arith) here (λ j e h n. alone (suc j) e (omega arith) (λ s. n (omega arith))))

  pub list_any-only : (xs : List X) (i : ℕ) → i < length xs → ((d : X) → test (get_or xs i d) ≡ true) → list_any test xs ≡ true
  list_any-only [] i within here = absurd (omega arith)
  list_any-only (x ∷ xs) zero within here = rw (here x) refl
  list_any-only (x ∷ xs) (suc i) within here = rw (list_any-only xs i (omega arith) here) (or_true (test x))

  pub map-only : (g : X → X) (xs : List X) (i : ℕ) (d : X) → i < length xs → ((e : X) → test (get_or xs i e) ≡ true) → ((j : ℕ) (e : X) → j < length xs → j ≢ i → test (get_or xs j e) ≡ false) → map (λ x. cond (test x) (g x) x) xs ≡ set xs i (g (get_or xs i d))
  map-only g [] i d within here alone = refl
  map-only g (x ∷ xs) zero d within here alone =
      rw (here x) (ap (λ (r : List X). g x ∷ r) (map-none g xs (λ j e h. alone (suc j) e (omega arith) (omega arith))))
  map-only g (x ∷ xs) (suc i) d within here alone =
      rw (alone 0 x (omega arith) (omega arith)) (ap (λ (r : List X). x ∷ r) (map-only g xs i d (omega arith) here (λ j e h n. alone (suc j) e (omega arith) (λ s. n (omega arith)))))

  pub filter-only : (xs : List X) (i : ℕ) → i < length xs → ((e : X) → test (get_or xs i e) ≡ true) → ((j : ℕ) (e : X) → j < length xs → j ≢ i → test (get_or xs j e) ≡ false) → filter (λ x. not (test x)) xs ≡ take i xs ++ drop (suc i) xs
  filter-only [] zero within here alone = refl
  filter-only [] (suc i) within here alone = refl
  filter-only (x ∷ xs) zero within here alone =
      rw (here x) (filter-none xs (λ j e h. alone (suc j) e (omega arith) (omega arith)))
  filter-only (x ∷ xs) (suc i) within here alone =
      rw (alone 0 x (omega arith) (omega arith)) (ap (λ (r : List X). x ∷ r) (filter-only xs i (omega arith) here (λ j e h n. alone (suc j) e (omega arith) (λ s. n (omega arith)))))

  -- the rows below i pass, and the others do not
  pub filter-front : (xs : List X) (i : ℕ) → AllWithin (λ x. test x ≡ true) xs 0 i → AllWithin (λ x. test x ≡ false) xs i (length xs) → filter test xs ≡ take i xs
  filter-front [] zero front back = refl
  filter-front [] (suc i) front back = refl
  filter-front (x ∷ xs) zero front back =
      rw (back 0 x (omega arith) (omega arith)) (filter-front xs zero (λ k d low high. absurd (omega arith)) (λ k d low high. back (suc k) d (omega arith) (omega arith)))
  filter-front (x ∷ xs) (suc i) front back =
      rw (front 0 x (omega arith) (omega arith)) (ap (λ (r : List X). x ∷ r) (filter-front xs i (λ k d low high. front (suc k) d (omega arith) (omega arith)) (λ k d low high. back (suc k) d (omega arith) (omega arith))))

  -- the rows from i on pass, and the others do not
  pub filter-back : (xs : List X) (i : ℕ) → AllWithin (λ x. test x ≡ false) xs 0 i → AllWithin (λ x. test x ≡ true) xs i (length xs) → filter test xs ≡ drop i xs
  filter-back [] zero front back = refl
  filter-back [] (suc i) front back = refl
  filter-back (x ∷ xs) zero front back =
      rw (back 0 x (omega arith) (omega arith)) (ap (λ (r : List X). x ∷ r) (filter-back xs zero (λ k d low high. absurd (omega arith)) (λ k d low high. back (suc k) d (omega arith) (omega arith))))
  filter-back (x ∷ xs) (suc i) front back =
      rw (front 0 x (omega arith) (omega arith)) (filter-back xs i (λ k d low high. front (suc k) d (omega arith) (omega arith)) (λ k d low high. back (suc k) d (omega arith) (omega arith)))

-- ---- rows in strict order of a key
module _ {X K : Type 0} (key : X → K) {R : K → K → Ordering} (o : IsTotalOrder R) where
  -- of two keys in order, a search finds the first no later than the second
  index_rises : (a b k : K) → R a b ≡ Less → (r : Ordering) → R b k ≡ r → ordering_index (R a k) ≤ ordering_index r
  index_rises a b k below Less is = rw (o.trans a b k below is) (omega arith)
  index_rises a b k below Equal is =
      let less : R a k ≡ Less = sym (alike_right o b k a is) ∙ below in rw less (omega arith)
  index_rises a b k below Greater is = index_most (R a k)

  -- the key of one row is below that of a later one
  key_below : (xs : List X) (i j : ℕ) (d : X) → IsStrictlySortedBy R (map key xs) → i < j → j < length xs → R (key (get_or xs i d)) (key (get_or xs j d)) ≡ Less
  key_below xs i j d order below within =
      let at = λ (k : ℕ). get_or-map key xs k d in
      sym (ap (λ (k : K). R k (key (get_or xs j d))) (at i))
      ∙ sym (ap (R (get_or (map key xs) i (key d))) (at j))
      ∙ Less-from_sorted R (map key xs) i j (key d) order below (rw (length-map xs key) within)

  -- along the rows, the answers of a search for a key rise
  pub search_rises : (k : K) (xs : List X) → IsStrictlySortedBy R (map key xs) → IsNonDecreasingBy (λ x. ordering_index (R (key x) k)) xs
  search_rises k xs order i j d up within =
      ⊎_elim
      (λ below. index_rises (key (get_or xs i d)) (key (get_or xs j d)) k (key_below xs i j d order below within) (R (key (get_or xs j d)) k) refl)
      (λ above. let same : i ≡ j = omega arith in subst (λ (n : ℕ). ordering_index (R (key (get_or xs i d)) k) ≤ ordering_index (R (key (get_or xs n d)) k)) same (omega arith))
      (cases_lt i j)

  -- where the key of the row at i is the key sought, that of no other row is
  pub search_alone : (k : K) (xs : List X) (i : ℕ) → IsStrictlySortedBy R (map key xs) → i < length xs → ((d : X) → R (key (get_or xs i d)) k ≡ Equal) → (j : ℕ) (d : X) → j < length xs → j ≢ i → is_eq (R (key (get_or xs j d)) k) ≡ false
  search_alone k xs i order within here j d inside other =
      ⊎_elim
      (λ below. let less : R (key (get_or xs j d)) k ≡ Less = sym (alike_right o (key (get_or xs i d)) k (key (get_or xs j d)) (here d)) ∙ key_below xs j i d order below within in rw less refl)
      (λ above. let more : R (key (get_or xs j d)) k ≡ Greater = o.antisymm (key (get_or xs j d)) k ∙ ap ordering_reverse (sym (o.congr (key (get_or xs i d)) k (key (get_or xs j d)) (here d)) ∙ key_below xs i j d order (omega arith) inside) in rw more refl)
      (cases_lt j i)

  -- where a search ends between two rows, no row has the key
  pub search_none : (k : K) (xs : List X) (i : ℕ) → IsPartitionPoint (λ x. R (key x) k ≡ Less) (λ x. R (key x) k ≡ Greater) xs i → (j : ℕ) (d : X) → j < length xs → is_eq (R (key (get_or xs j d)) k) ≡ false
  search_none k xs i parted j d inside =
      ⊎_elim
      (λ below. rw (parted.0 j d (omega arith) below) refl)
      (λ above. rw (parted.1 j d above inside) refl)
      (cases_lt j i)

  -- the rows before that place are those of lower keys
  pub rows_before : (k : K) (xs : List X) (i : ℕ) → IsPartitionPoint (λ x. R (key x) k ≡ Less) (λ x. R (key x) k ≡ Greater) xs i → filter (λ x. is_lt (R (key x) k)) xs ≡ take i xs
  rows_before k xs i parted =
      filter-front (λ x. is_lt (R (key x) k)) xs i
      (λ j d low high. rw (parted.0 j d low high) refl)
      (λ j d low high. rw (parted.1 j d low high) refl)

  -- those after it are those of higher keys
  pub rows_after : (k : K) (xs : List X) (i : ℕ) → IsPartitionPoint (λ x. R (key x) k ≡ Less) (λ x. R (key x) k ≡ Greater) xs i → filter (λ x. is_lt (R k (key x))) xs ≡ drop i xs
  rows_after k xs i parted =
      filter-back (λ x. is_lt (R k (key x))) xs i
      (λ j d low high. rw (o.antisymm k (key (get_or xs j d)), parted.0 j d low high) refl)
      (λ j d low high. rw (o.antisymm k (key (get_or xs j d)), parted.1 j d low high) refl)

  -- ---- the rows stay in order
  all_inserted : (P : K → Type 0) (xs : List X) (x : X) (i : ℕ) → AllByRecursion P (map key xs) → P (key x) → AllByRecursion P (map key (take i xs ++ x ∷ drop i xs))
  all_inserted P [] x zero all one = (one, tt)
  all_inserted P [] x (suc i) all one = (one, tt)
  all_inserted P (y ∷ ys) x zero all one = (one, all)
  all_inserted P (y ∷ ys) x (suc i) all one = (all.0, all_inserted P ys x i all.1 one)

  all_above : (k : K) (xs : List X) → AllWithin (λ x. R (key x) k ≡ Greater) xs 0 (length xs) → AllByRecursion (λ q. R k q ≡ Less) (map key xs)
  all_above k [] above = tt
  all_above k (x ∷ xs) above =
      (o.antisymm k (key x) ∙ ap ordering_reverse (above 0 x (omega arith) (omega arith)), all_above k xs (λ j d low high. above (suc j) d (omega arith) (omega arith)))

  all_kept : (P : K → Type 0) (p : X → Bool) (xs : List X) → AllByRecursion P (map key xs) → AllByRecursion P (map key (filter p xs))
  all_kept P p [] all = tt
  all_kept P p (x ∷ xs) all =
      elim (p x) as (λ b. AllByRecursion P (map key (cond b (x ∷ filter p xs) (filter p xs)))) [ true ↦ (all.0, all_kept P p xs all.1) | false ↦ all_kept P p xs all.1 ]

  -- one more, where a search for its key ends
  pub order-inserted : (xs : List X) (x : X) (i : ℕ) → IsStrictlySortedBy R (map key xs) → IsPartitionPoint (λ y. R (key y) (key x) ≡ Less) (λ y. R (key y) (key x) ≡ Greater) xs i → IsStrictlySortedBy R (map key (take i xs ++ x ∷ drop i xs))
  unfolding IsStrictlySortedBy
  order-inserted [] x zero order parted = (tt, tt)
  order-inserted [] x (suc i) order parted = (tt, tt)
  order-inserted (y ∷ ys) x zero order parted = (all_above (key x) (y ∷ ys) parted.1, order)
  order-inserted (y ∷ ys) x (suc i) order parted = (
    all_inserted (λ q. R (key y) q ≡ Less) ys x i order.0 (parted.0 0 y (omega arith) (omega arith)),
    order-inserted ys x i order.1 ((λ j d low high. parted.0 (suc j) d (omega arith) (omega arith)), (λ j d low high. parted.1 (suc j) d (omega arith) (omega arith))),
  )

  -- those that pass a test
  pub order-filter : (p : X → Bool) (xs : List X) → IsStrictlySortedBy R (map key xs) → IsStrictlySortedBy R (map key (filter p xs))
  unfolding IsStrictlySortedBy
  order-filter p [] order = tt
  order-filter p (x ∷ xs) order =
      elim (p x) as (λ b. IsStrictlySortedBy R (map key (cond b (x ∷ filter p xs) (filter p xs)))) [ true ↦ (all_kept (λ q. R (key x) q ≡ Less) p xs order.0, order-filter p xs order.1) | false ↦ order-filter p xs order.1 ]

  all_pushed : (P : K → Type 0) (xs : List X) (x : X) → AllByRecursion P (map key xs) → P (key x) → AllByRecursion P (map key (xs ++ x ∷ []))
  all_pushed P [] x all one = (one, tt)
  all_pushed P (y ∷ ys) x all one = (all.0, all_pushed P ys x all.1 one)

  -- one more at the end, whose key is above those of all rows
  pub order-push : (xs : List X) (x : X) → IsStrictlySortedBy R (map key xs) → All (λ y. R (key y) (key x) ≡ Less) xs → IsStrictlySortedBy R (map key (xs ++ x ∷ []))
  unfolding IsStrictlySortedBy
  order-push [] x order below = (tt, tt)
  order-push (y ∷ ys) x order below =
      (all_pushed (λ q. R (key y) q ≡ Less) ys x order.0 (below 0 y (omega arith)), order-push ys x order.1 (λ j d inside. below (suc j) d (omega arith)))

  all_first : (P : K → Type 0) (n : ℕ) (xs : List X) → AllByRecursion P (map key xs) → AllByRecursion P (map key (take n xs))
  all_first P zero xs all = tt
  all_first P (suc n) [] all = tt
  all_first P (suc n) (x ∷ xs) all = (all.0, all_first P n xs all.1)

  -- the first so many
  pub order-take : (n : ℕ) (xs : List X) → IsStrictlySortedBy R (map key xs) → IsStrictlySortedBy R (map key (take n xs))
  unfolding IsStrictlySortedBy
  order-take zero xs order = tt
  order-take (suc n) [] order = tt
  order-take (suc n) (x ∷ xs) order = (all_first (λ q. R (key x) q ≡ Less) n xs order.0, order-take n xs order.1)

-- ---- what stays true of some row, or of each
module _ {X : Type 0} where
  pub list_any-inserted : (test : X → Bool) (xs : List X) (x : X) (i : ℕ) → list_any test xs ≡ true → list_any test (take i xs ++ x ∷ drop i xs) ≡ true
  list_any-inserted test xs x i some =
      list_any-append test (take i xs) (x ∷ drop i xs)
      ∙ either (list_any test (take i xs)) (test x) (list_any test (drop i xs)) (sym (list_any-append test (take i xs) (drop i xs)) ∙ ap (list_any test) (take-append-drop i xs) ∙ some)

  pub All-inserted : (P : X → Type 0) (xs : List X) (x : X) (i : ℕ) → All P xs → P x → All P (take i xs ++ x ∷ drop i xs)
  All-inserted P xs x i all one = All-append P (take i xs) (x ∷ drop i xs) (All-take P i xs all) (All-cons P x (drop i xs) one (All-drop P i xs all))

  pub list_any-map : {K : Type 0} (key : X → K) (test : K → Bool) (xs : List X) → list_any test (map key xs) ≡ list_any (λ x. test (key x)) xs
  list_any-map key test [] = refl
  list_any-map key test (x ∷ xs) = ap (λ (b : Bool). test (key x) || b) (list_any-map key test xs)

  pub length-filter_le : (p : X → Bool) (xs : List X) → length (filter p xs) ≤ length xs
  length-filter_le p [] = omega arith
  length-filter_le p (x ∷ xs) =
      let rest = length-filter_le p xs in
      elim (p x) as (λ b. length (cond b (x ∷ filter p xs) (filter p xs)) ≤ suc (length xs)) [ true ↦ omega (arith, rest) | false ↦ omega (arith, rest) ]
