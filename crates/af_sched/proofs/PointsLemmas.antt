-- The points of a range rise, and are those of the schedule between its dates that have a next one.
use Rattle.std.proofs.Common.{◌≡◌, ◌∙◌, ◌<◌, ◌≤◌, ◌+◌, ◌-◌, ◌&&◌, ℕ, List, [], ◌∷◌, get_or, refl, sym, ap, subst, arith, zero, suc, Bool, true, false, cond, Option, Some, None}
use Rattle.std.specs.Prelude.{All, Contains, filter, nat_le}
use Rattle.std.specs.List.{AllByRecursion, range_with_len}
use Rattle.std.specs.List.Sorted.{IsStrictlySortedBy}
use Rattle.std.specs.Option.{option_map_or}
use Rattle.std.specs.Ordering.{nat_cmp}
use Rattle.std.specs.declared.cmp.Ordering.TheVariants.{Less}
use Rattle.std.proofs.lemmas.Bool.{false≢true}
use Rattle.std.proofs.lemmas.Bool.Decides.{nat_tests}
use Rattle.std.proofs.lemmas.List.Elements.{All-contains, All-filter, filter_passes}
use Rattle.std.proofs.lemmas.List.FromFn.{get_or-range_with_len, length-range_with_len}
use Rattle.std.proofs.lemmas.List.Kept.{IsStrictlySortedBy-filter}
use Rattle.af_names.specs.Instants.{last_micros}
use Rattle.af_sched.specs.Backfills.{points_within}
use Rattle.af_sched.specs.Due.{due_from, is_due, next_after}
use Rattle.af_sched.specs.Laws.{PointsOfARange}
use Rattle.af_sched.proofs.TakenLemmas.{Rising, next_low, rising_range}

-- ---- they rise
less_from : (a b : ℕ) → a < b → nat_cmp a b ≡ Less
less_from a b below = grind (arith, nat_tests)

below_all : (x low : ℕ) (xs : List ℕ) → x < low → Rising low xs → AllByRecursion (λ y. nat_cmp x y ≡ Less) xs
below_all x low [] under rising = tt
below_all x low (y ∷ ys) under rising = (less_from x y (omega (arith, rising.0)), below_all x (y + 1) ys (omega (arith, rising.0)) rising.1)

sorted_rising : (low : ℕ) (xs : List ℕ) → Rising low xs → IsStrictlySortedBy nat_cmp xs
unfolding IsStrictlySortedBy
sorted_rising low [] rising = tt
sorted_rising low (x ∷ xs) rising = (below_all x (x + 1) xs (omega arith) rising.1, sorted_rising (x + 1) xs rising.1)

sorted_points : (is_point : ℕ → Bool) (first last : ℕ) → IsStrictlySortedBy nat_cmp (points_within is_point first last)
unfolding points_within due_from
sorted_points is_point first last =
    IsStrictlySortedBy-filter nat_cmp (λ at. nat_le at last) (filter (is_due is_point last_micros) (range_with_len first (last_micros - first)))
    (sorted_rising first (filter (is_due is_point last_micros) (range_with_len first (last_micros - first))) (rising_range (is_due is_point last_micros) (last_micros - first) first))

-- ---- what is in a range, and what a filter keeps
range_low : (from count : ℕ) → All (λ x. from ≤ x) (range_with_len from count)
range_low from count k d inside =
    let is : get_or (range_with_len from count) k d ≡ from + k = get_or-range_with_len from count k d (rw (length-range_with_len from count) at inside) in
    omega (arith, is)

in_range : (from count x : ℕ) → from ≤ x → x < from + count → Contains (range_with_len from count) x
in_range from count x low high =
    let place : from + (x - from) ≡ x = omega arith in
    (x - from, rw (length-range_with_len from count) (omega arith), get_or-range_with_len from count (x - from) x (omega arith) ∙ place)

later : (b : Bool) (y : ℕ) (ys : List ℕ) (x : ℕ) → Contains ys x → Contains (cond b (y ∷ ys) ys) x
later true y ys x has = (suc has.0, omega (arith, has.1), has.2)
later false y ys x has = has

-- what passes is kept
kept : (test : ℕ → Bool) (xs : List ℕ) (x : ℕ) → Contains xs x → test x ≡ true → Contains (filter test xs) x
kept test [] x has passes = absurd (omega (arith, has.1))
kept test (y ∷ ys) x (zero, within, is) passes =
    subst (λ (b : Bool). Contains (cond b (y ∷ filter test ys) (filter test ys)) x) (sym (ap test is ∙ passes)) (0, omega arith, is)
kept test (y ∷ ys) x (suc k, within, is) passes = later (test y) y (filter test ys) x (kept test ys x (k, omega arith, is) passes)

-- ---- they have a next one
told : (b : Bool) (o : Option ℕ) → (b && option_map_or (λ end. nat_le end last_micros) o false) ≡ true → (b ≡ true) × ((end : ℕ) × (o ≡ Some end) × (end ≤ last_micros))
told true (Some end) is = (refl, (end, refl, grind (arith, nat_tests)))
told true None is = absurd (false≢true is)
told false o is = absurd (false≢true is)

due_is : (is_point : ℕ → Bool) (at end : ℕ) → is_point at ≡ true → next_after is_point at ≡ Some end → end ≤ last_micros → is_due is_point last_micros at ≡ true
due_is is_point at end point next by = let ends : nat_le end last_micros ≡ true = grind (arith, nat_tests) in rw (point, next) ends

up_to : (at last : ℕ) → nat_le at last ≡ true → at ≤ last
up_to at last is = grind (arith, nat_tests)

is_up_to : (at last : ℕ) → at ≤ last → nat_le at last ≡ true
is_up_to at last low = grind (arith, nat_tests)

module _ (is_point : ℕ → Bool) (first last at : ℕ) where
  abbrev Between : Type 0
  Between = (is_point at ≡ true) × (first ≤ at) × (at ≤ last) × ((end : ℕ) × (next_after is_point at ≡ Some end) × (end ≤ last_micros))

  abbrev all_in : List ℕ
  all_in = range_with_len first (last_micros - first)

  is_between : Contains (points_within is_point first last) at → Between
  unfolding points_within due_from
  is_between has =
      let due : List ℕ = filter (is_due is_point last_micros) all_in in
      let parts =
      told (is_point at) (next_after is_point at)
      (All-contains (λ x. is_due is_point last_micros x ≡ true) (filter (λ x. nat_le x last) due) at
      (All-filter (λ x. nat_le x last) (λ x. is_due is_point last_micros x ≡ true) due (filter_passes (is_due is_point last_micros) all_in)) has)
      in
      let low =
      All-contains (λ x. first ≤ x) (filter (λ x. nat_le x last) due) at
      (All-filter (λ x. nat_le x last) (λ x. first ≤ x) due (All-filter (is_due is_point last_micros) (λ x. first ≤ x) all_in (range_low first (last_micros - first)))) has
      in
      let high = All-contains (λ x. nat_le x last ≡ true) (filter (λ x. nat_le x last) due) at (filter_passes (λ x. nat_le x last) due) has in
      (parts.0, low, up_to at last high, parts.1)

  is_within : Between → Contains (points_within is_point first last) at
  unfolding points_within due_from
  is_within (point, low, high, (end, next, by)) =
      let above = next_low is_point at end next in
      kept (λ x. nat_le x last) (filter (is_due is_point last_micros) all_in) at
      (kept (is_due is_point last_micros) all_in at (in_range first (last_micros - first) at low (omega arith)) (due_is is_point at end point next by))
      (is_up_to at last high)

pub points_of_a_range : PointsOfARange
points_of_a_range is_point first last = (sorted_points is_point first last, λ at. (is_between is_point first last at, is_within is_point first last at))
