-- The points that one tick takes are below those that a later one takes, and below where they leave the cursor.
use Rattle.std.proofs.Common.{◌≡◌, ◌∙◌, ◌<◌, ◌≤◌, ◌+◌, ◌-◌, ℕ, List, [], ◌∷◌, refl, sym, ap, arith, zero, suc, Bool, true, false, cond, take, Option, Some, None}
use Rattle.std.specs.Prelude.{Contains, filter, find, option_to_list}
use Rattle.std.specs.Option.{option_map_or}
use Rattle.std.specs.List.{last_or, range_with_len}
use Rattle.std.proofs.lemmas.Bool.{false≢true}
use Rattle.af_names.specs.Instants.{last_micros}
use Rattle.af_names.specs.Points.{next_of}
use Rattle.af_sched.specs.Due.{due_from, is_due, moved_cursor, next_after, taken_points}

-- each is above those before it, and none is below this
abbrev pub Rising : ℕ → List ℕ → Type 0
Rising low [] = Unit {0}
Rising low (x ∷ xs) = (low ≤ x) × Rising (x + 1) xs

rising_from : (low lower : ℕ) (xs : List ℕ) → lower ≤ low → Rising low xs → Rising lower xs
rising_from low lower [] under rising = tt
rising_from low lower (x ∷ xs) under rising = (omega (arith, rising.0), rising.1)

pub rising_range : (test : ℕ → Bool) (count from : ℕ) → Rising from (filter test (range_with_len from count))
rising_range test zero from = tt
rising_range test (suc count) from = by (test from) (rising_range test count (from + 1))
  where
    more : List ℕ
    more = filter test (range_with_len (from + 1) count)

    by : (b : Bool) → Rising (from + 1) more → Rising from (cond b (from ∷ more) more)
    by true rising = (omega arith, rising)
    by false rising = rising_from (from + 1) from more (omega arith) rising

rising_take : (n low : ℕ) (xs : List ℕ) → Rising low xs → Rising low (take n xs)
rising_take zero low xs rising = tt
rising_take (suc n) low [] rising = tt
rising_take (suc n) low (x ∷ xs) rising = (rising.0, rising_take n (x + 1) xs rising.1)

rising_low : (low : ℕ) (xs : List ℕ) (x : ℕ) → Rising low xs → Contains xs x → low ≤ x
rising_low low [] x rising has = absurd (omega (arith, has.1))
rising_low low (y ∷ ys) x rising (zero, within, is) = omega (arith, is, rising.0)
rising_low low (y ∷ ys) x rising (suc k, within, is) = let rest = rising_low (y + 1) ys x rising.1 (k, omega arith, is) in omega (arith, rest, rising.0)

-- ---- the last
none_is_none : (x : ℕ) → None ≡ Some x → ⊥
none_is_none x same = false≢true (ap (λ (o : Option ℕ). option_map_or (λ (z : ℕ). true) o false) same)

some_is : (x y : ℕ) → Some x ≡ Some y → x ≡ y
some_is x y same = ap (λ (o : Option ℕ). option_map_or (λ z. z) o 0) same

last_low : (low : ℕ) (xs : List ℕ) (o : Option ℕ) (last : ℕ) → ((x : ℕ) → o ≡ Some x → low ≤ x) → Rising low xs → last_or o xs ≡ Some last → low ≤ last
last_low low [] o last first rising is = first last is
last_low low (y ∷ ys) o last first rising is =
    last_low low ys (Some y) last (λ x same. let here = some_is y x same in omega (arith, here, rising.0)) (rising_from (y + 1) low ys (omega (arith, rising.0)) rising.1) is

last_high : (low : ℕ) (xs : List ℕ) (o : Option ℕ) (last x : ℕ) → Rising low xs → last_or o xs ≡ Some last → Contains xs x → x ≤ last
last_high low [] o last x rising is has = absurd (omega (arith, has.1))
last_high low (y ∷ ys) o last x rising is (zero, within, same) =
    let up = last_low y ys (Some y) last (λ z one. let here = some_is y z one in omega (arith, here)) (rising_from (y + 1) y ys (omega arith) rising.1) is in omega (arith, up, same)
last_high low (y ∷ ys) o last x rising is (suc k, within, same) = last_high (y + 1) ys (Some y) last x rising.1 is (k, omega arith, same)

-- ---- the points taken
rising_taken : (catchup : Bool) (is_point : ℕ → Bool) (cursor t : ℕ) → Rising cursor (taken_points catchup is_point cursor t)
unfolding due_from
rising_taken true is_point cursor t = rising_take 16 cursor (due_from is_point cursor t) (rising_range (is_due is_point t) (t - cursor) cursor)
rising_taken false is_point cursor t = by (last_or None (due_from is_point cursor t)) refl
  where
    by : (o : Option ℕ) → last_or None (due_from is_point cursor t) ≡ o → Rising cursor (option_to_list o)
    by None is = tt
    by (Some last) is = (last_low cursor (due_from is_point cursor t) None last (λ x never. absurd (none_is_none x never)) (rising_range (is_due is_point t) (t - cursor) cursor) is, tt)

some_last : (xs : List ℕ) (x : ℕ) → last_or (Some x) xs ≡ None → ⊥
some_last [] x none = none_is_none x (sym none)
some_last (y ∷ ys) x none = some_last ys y none

find_low : (test : ℕ → Bool) (count from found : ℕ) → find test (range_with_len from count) ≡ Some found → from ≤ found
find_low test zero from found is = absurd (none_is_none found is)
find_low test (suc count) from found is = by (test from) refl (λ later. find_low test count (from + 1) found later)
  where
    more : Option ℕ
    more = find test (range_with_len (from + 1) count)

    by : (b : Bool) → test from ≡ b → (more ≡ Some found → from + 1 ≤ found) → from ≤ found
    by true on rest = let here = some_is from found (sym (ap (λ (b : Bool). cond b (Some from) more) on) ∙ is) in omega (arith, here)
    by false off rest = let low = rest (sym (ap (λ (b : Bool). cond b (Some from) more) off) ∙ is) in omega (arith, low)

pub next_low : (is_point : ℕ → Bool) (at next : ℕ) → next_after is_point at ≡ Some next → at < next
unfolding next_of
next_low is_point at next is = let low = find_low is_point (last_micros + 1 - (at + 1)) (at + 1) next is in omega (arith, low)

pub no_point_is_taken_twice : (catchup : Bool) (is_point : ℕ → Bool) (cursor later t u point : ℕ) → moved_cursor is_point (taken_points catchup is_point cursor t) cursor ≡ Some later → Contains (taken_points catchup is_point cursor t) point → Contains (taken_points catchup is_point later u) point → ⊥
no_point_is_taken_twice catchup is_point cursor later t u point moved first second =
    by (taken_points catchup is_point cursor t) (rising_taken catchup is_point cursor t) first moved
  where
    above : later ≤ point
    above = rising_low later (taken_points catchup is_point later u) point (rising_taken catchup is_point later u) second

    at_last : (xs : List ℕ) → Rising cursor xs → Contains xs point → (o : Option ℕ) → last_or None xs ≡ o → option_map_or (next_after is_point) o (Some cursor) ≡ Some later → ⊥
    at_last [] rising has o is after = absurd (omega (arith, has.1))
    at_last (x ∷ xs) rising has None is after = some_last xs x is
    at_last (x ∷ xs) rising has (Some last) is after =
        let high = last_high cursor (x ∷ xs) None last point rising is has in
        let low = next_low is_point last later after in omega (arith, above, high, low)

    by : (xs : List ℕ) → Rising cursor xs → Contains xs point → option_map_or (next_after is_point) (last_or None xs) (Some cursor) ≡ Some later → ⊥
    by xs rising has after = at_last xs rising has (last_or None xs) refl after

-- where the cursor stays, no point was taken
pub taken_none : (catchup : Bool) (is_point : ℕ → Bool) (cursor t : ℕ) → moved_cursor is_point (taken_points catchup is_point cursor t) cursor ≡ Some cursor → taken_points catchup is_point cursor t ≡ []
taken_none catchup is_point cursor t =
    by (taken_points catchup is_point cursor t) (rising_taken catchup is_point cursor t)
  where
    at_last : (x : ℕ) (xs : List ℕ) (o : Option ℕ) → Rising cursor (x ∷ xs) → last_or None (x ∷ xs) ≡ o → option_map_or (next_after is_point) o (Some cursor) ≡ Some cursor → x ∷ xs ≡ []
    at_last x xs None rising is after = absurd (some_last xs x is)
    at_last x xs (Some last) rising is after =
        let low = last_low cursor (x ∷ xs) None last (λ z never. absurd (none_is_none z never)) rising is in
        let high = next_low is_point last cursor after in absurd (omega (arith, low, high))

    by : (xs : List ℕ) → Rising cursor xs → moved_cursor is_point xs cursor ≡ Some cursor → xs ≡ []
    by [] rising stays = refl
    by (x ∷ xs) rising stays = at_last x xs (last_or None (x ∷ xs)) rising refl stays
