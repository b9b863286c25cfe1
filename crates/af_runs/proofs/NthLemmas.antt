-- The run at a place among those that pass a test, by its number.
use Rattle.std.proofs.Common.{◌≡◌, refl, sym, ◌∙◌, ap, subst, ℕ, zero, suc, ◌<◌, ◌≤◌, ◌-◌, List, [], ◌∷◌, ◌++◌, map, length, get_or, take, drop, Bool, true, false, cond, ◌==◌, arith, take_all, length-drop}
use Rattle.std.specs.Prelude.{Some, None, filter, slice_get, option_map}
use Rattle.std.specs.List.{AllByRecursion}
use Rattle.std.specs.List.Sorted.{IsStrictlySortedBy}
use Rattle.std.specs.Ordering.{nat_cmp}
use Rattle.std.specs.declared.cmp.Ordering.TheVariants.{Less}
use Rattle.std.proofs.Math.ListN.{take-append-drop}
use Rattle.std.proofs.Math.Dec.{ltb}
use Rattle.std.proofs.lemmas.Bool.{ltb-true, ltb-false}
use Rattle.std.proofs.lemmas.Bool.Decides.{nat_tests}
use Rattle.std.proofs.lemmas.List.Elements.{filter-append}
use Rattle.af_runs.specs.Runs.{run_at}
use Rattle.af_runs.specs.declared.run.Run.{Run}

number_of : Run → ℕ
number_of run = run.number

lower_number : (n m : ℕ) → nat_cmp n m ≡ Less → (n == m) ≡ false
lower_number n m less = grind (arith, nat_tests)

same_number : (n m : ℕ) → n ≡ m → (n == m) ≡ true
same_number n m same = grind (arith, nat_tests)

pub get-map : (f : Run → ℕ) (xs : List Run) (k : ℕ) → slice_get (map f xs) k ≡ option_map f (slice_get xs k)
get-map f [] k = refl
get-map f (x ∷ xs) zero = refl
get-map f (x ∷ xs) (suc k) = get-map f xs k

pub none_at : (xs : List Run) (k : ℕ) → slice_get (map (λ (run : Run). run.number) xs) k ≡ None → slice_get xs k ≡ None
none_at [] k none = refl
none_at (x ∷ xs) zero none = absurd (cc)
none_at (x ∷ xs) (suc k) none = none_at xs k none

within_is : (k n : ℕ) → true ≡ ltb k n → k < n
within_is k n is = ltb-true k n (sym is)

past_is : (k n : ℕ) → false ≡ ltb k n → n ≤ k
past_is k n is = let no = ltb-false k n (sym is) in omega (arith, no)

some_at : {X : Type 0} (xs : List X) (k : ℕ) (x : X) → k < length xs → slice_get xs k ≡ Some (get_or xs k x)
some_at [] k x within = absurd (omega arith)
some_at (y ∷ xs) zero x within = refl
some_at (y ∷ xs) (suc k) x within = some_at xs k x (omega arith)

none_past : {X : Type 0} (xs : List X) (k : ℕ) → length xs ≤ k → slice_get xs k ≡ None
none_past [] k past = refl
none_past (y ∷ xs) zero past = absurd (omega arith)
none_past (y ∷ xs) (suc k) past = none_past xs k (omega arith)

pub found_at : (xs : List ℕ) (k x : ℕ) → true ≡ ltb k (length xs) → x ≡ get_or xs k x → Some x ≡ slice_get xs k
found_at xs k x within is = ap Some is ∙ sym (some_at xs k x (within_is k (length xs) within))

pub missed_at : (xs : List ℕ) (k : ℕ) → false ≡ ltb k (length xs) → None ≡ slice_get xs k
missed_at xs k past = sym (none_past xs k (past_is k (length xs) past))

pub past_from_none : {X : Type 0} → (xs : List X) (k : ℕ) → slice_get xs k ≡ None → length xs ≤ k
past_from_none [] k none = omega arith
past_from_none (x ∷ xs) zero none = absurd (cc)
past_from_none (x ∷ xs) (suc k) none = let rest = past_from_none xs k none in omega (arith, rest)

pub get-append_left : {X : Type 0} → (xs ys : List X) (k : ℕ) (x : X) → slice_get xs k ≡ Some x → slice_get (xs ++ ys) k ≡ Some x
get-append_left [] ys k x is = absurd (cc)
get-append_left (y ∷ xs) ys zero x is = is
get-append_left (y ∷ xs) ys (suc k) x is = get-append_left xs ys k x is

pub get-append_right : {X : Type 0} → (xs ys : List X) (k : ℕ) → length xs ≤ k → slice_get (xs ++ ys) k ≡ slice_get ys (k - length xs)
get-append_right [] ys k past = ap (slice_get ys) (omega arith)
get-append_right (x ∷ xs) ys zero past = absurd (omega arith)
get-append_right (x ∷ xs) ys (suc k) past = get-append_right xs ys k (omega arith) ∙ ap (slice_get ys) (omega arith)

module _ (p : Run → Bool) where
  abbrev numbers : List Run → List ℕ
  numbers runs = map (λ (run : Run). run.number) (filter p runs)

  above_case : (b : Bool) (n : ℕ) (run : Run) (some : List Run) (k number : ℕ) → nat_cmp n run.number ≡ Less → ((j : ℕ) → slice_get (map (λ (r : Run). r.number) some) j ≡ Some number → nat_cmp n number ≡ Less) → slice_get (map (λ (r : Run). r.number) (cond b (run ∷ some) some)) k ≡ Some number → nat_cmp n number ≡ Less
  above_case true n run some zero number first rest is = subst (λ (m : ℕ). nat_cmp n m ≡ Less) (cc) first
  above_case true n run some (suc k) number first rest is = rest k is
  above_case false n run some k number first rest is = rest k is

  above_at : (n : ℕ) (runs : List Run) (k number : ℕ) → AllByRecursion (λ m. nat_cmp n m ≡ Less) (map (λ (run : Run). run.number) runs) → slice_get (numbers runs) k ≡ Some number → nat_cmp n number ≡ Less
  above_at n [] k number above is = absurd (cc)
  above_at n (run ∷ runs) k number above is = above_case (p run) n run (filter p runs) k number above.0 (λ j at. above_at n runs j number above.1 at) is

  passed_case : (b : Bool) (run : Run) (runs some : List Run) (k number : ℕ) → ((j : ℕ) → slice_get (map (λ (r : Run). r.number) some) j ≡ Some number → nat_cmp run.number number ≡ Less) → ((j : ℕ) → slice_get (map (λ (r : Run). r.number) some) j ≡ Some number → run_at runs number ≡ slice_get some j) → slice_get (map (λ (r : Run). r.number) (cond b (run ∷ some) some)) k ≡ Some number → run_at (run ∷ runs) number ≡ slice_get (cond b (run ∷ some) some) k
  passed_case true run runs some zero number above rest is = let same : run.number ≡ number = cc in rw (same_number run.number number same) refl
  passed_case true run runs some (suc k) number above rest is = rw (lower_number run.number number (above k is)) (rest k is)
  passed_case false run runs some k number above rest is = rw (lower_number run.number number (above k is)) (rest k is)

  pub numbered_at : (runs : List Run) (k number : ℕ) → IsStrictlySortedBy nat_cmp (map (λ (run : Run). run.number) runs) → slice_get (numbers runs) k ≡ Some number → run_at runs number ≡ slice_get (filter p runs) k
  unfolding IsStrictlySortedBy
  numbered_at [] k number order is = absurd (cc)
  numbered_at (run ∷ runs) k number order is =
      passed_case (p run) run runs (filter p runs) k number (λ j at. above_at run.number runs j number order.0 at) (λ j at. numbered_at runs j number order.1 at) is

  pub split : (runs : List Run) (n : ℕ) → filter p (take n runs) ++ filter p (drop n runs) ≡ filter p runs
  split runs n = sym (filter-append p (take n runs) (drop n runs)) ∙ ap (filter p) (take-append-drop n runs)

  pub map-append : (xs ys : List Run) → map (λ (run : Run). run.number) (xs ++ ys) ≡ map (λ (run : Run). run.number) xs ++ map (λ (run : Run). run.number) ys
  map-append [] ys = refl
  map-append (x ∷ xs) ys = ap (λ (ns : List ℕ). x.number ∷ ns) (map-append xs ys)

  -- among the first rows, or among the others
  pub listed_at : (runs : List Run) (n k number : ℕ) → IsStrictlySortedBy nat_cmp (map (λ (run : Run). run.number) runs) → slice_get (numbers (take n runs)) k ≡ Some number → run_at runs number ≡ slice_get (filter p runs) k
  listed_at runs n k number order is =
      numbered_at runs k number order
      (ap (λ (some : List Run). slice_get (map (λ (run : Run). run.number) some) k) (sym (split runs n))
      ∙ ap (λ (ns : List ℕ). slice_get ns k) (map-append (filter p (take n runs)) (filter p (drop n runs)))
      ∙ get-append_left (numbers (take n runs)) (numbers (drop n runs)) k number is)

  pub rest_at : (runs : List Run) (n k : ℕ) → n ≤ length runs → length (filter p (take n runs)) ≤ k → slice_get (filter p (take (length runs - n) (drop n runs))) (k - length (filter p (take n runs))) ≡ slice_get (filter p runs) k
  rest_at runs n k within past =
      ap (λ (rest : List Run). slice_get (filter p rest) (k - length (filter p (take n runs)))) (take_all (length runs - n) (drop n runs) (omega (arith, length-drop n runs)))
      ∙ sym (get-append_right (filter p (take n runs)) (filter p (drop n runs)) k past)
      ∙ ap (λ (some : List Run). slice_get some k) (split runs n)
