-- The numbers of the runs that pass a test: kept in order where one run changes, is added or is taken out.
use Rattle.std.proofs.Common.{◌≡◌, refl, sym, ◌∙◌, ap, subst, ℕ, zero, suc, ◌<◌, List, [], ◌∷◌, ◌++◌, map, length, get_or, set, take, drop, Bool, true, false, cond, arith}
use Rattle.std.specs.Prelude.{filter}
use Rattle.std.specs.List.{AllByRecursion, remove, insert}
use Rattle.std.specs.List.Sorted.{IsStrictlySortedBy, IsPartitionPoint, IsNonDecreasingBy}
use Rattle.std.specs.Ordering.{is_lt, nat_cmp, ordering_index}
use Rattle.std.specs.declared.cmp.Ordering.TheVariants.{Less, Equal, Greater}
use Rattle.std.specs.Cmp.{nat_cmp_total}
use Rattle.std.proofs.lemmas.Bool.Decides.{nat_tests}
use Rattle.std.proofs.Math.ListN.{take-append-drop}
use Rattle.af_runs.specs.Busy.{with_number}
use Rattle.af_runs.specs.declared.run.Run.{Run}
use Rattle.af_names.proofs.OrderLemmas.{rows_before, rows_after, search_rises}

abbrev number_of : Run → ℕ
number_of run = run.number

abbrev Above : ℕ → List Run → Type 0
Above n runs = AllByRecursion (λ m. nat_cmp n m ≡ Less) (map number_of runs)

lower : ℕ → ℕ → Bool
lower number other = is_lt (nat_cmp other number)

higher : ℕ → ℕ → Bool
higher number other = is_lt (nat_cmp number other)

lt_not : (n m : ℕ) → nat_cmp n m ≡ Less → is_lt (nat_cmp m n) ≡ false
lt_not n m less = grind (arith, nat_tests)

lt_is : (n m : ℕ) → nat_cmp n m ≡ Less → is_lt (nat_cmp n m) ≡ true
lt_is n m less = rw less refl

not_self : (n : ℕ) → is_lt (nat_cmp n n) ≡ false
not_self n = grind (arith, nat_tests)

-- the numbers of those that pass a test, one after the other
numbers_step : (b : Bool) (run : Run) (some : List Run) → map number_of (cond b (run ∷ some) some) ≡ cond b (run.number ∷ map number_of some) (map number_of some)
numbers_step true run some = refl
numbers_step false run some = refl

filter_step : (p : ℕ → Bool) (b c : Bool) (number : ℕ) (some : List ℕ) → p number ≡ c → filter p (cond b (number ∷ some) some) ≡ cond b (cond c (number ∷ filter p some) (filter p some)) (filter p some)
filter_step p true c number some is = rw is refl
filter_step p false c number some is = refl

same_either : {X : Type 0} (b : Bool) (x : X) → cond b x x ≡ x
same_either true x = refl
same_either false x = refl

below_at : (n : ℕ) (runs : List Run) (place : ℕ) (d : Run) → Above n runs → place < length runs → nat_cmp n (get_or runs place d).number ≡ Less
below_at n [] place d above within = absurd (omega arith)
below_at n (run ∷ runs) zero d above within = above.0
below_at n (run ∷ runs) (suc place) d above within = below_at n runs place d above.1 (omega arith)

with_step : (b : Bool) (number : ℕ) (rest : List ℕ) → cond b (number ∷ rest) rest ≡ cond b (number ∷ []) [] ++ rest
with_step true number rest = refl
with_step false number rest = refl

lower_first : (b : Bool) (number : ℕ) (some rest : List ℕ) → cond b (number ∷ some) some ++ rest ≡ cond b (number ∷ (some ++ rest)) (some ++ rest)
lower_first true number some rest = refl
lower_first false number some rest = refl

-- ---- the numbers of those that pass a test
module _ (p : Run → Bool) where
  abbrev numbers_of : List Run → List ℕ
  numbers_of runs = map number_of (filter p runs)

  -- above a number: none is lower, and all are higher
  none_lower : (number : ℕ) (runs : List Run) → Above number runs → filter (λ other. is_lt (nat_cmp other number)) (numbers_of runs) ≡ []
  none_lower number [] above = refl
  none_lower number (run ∷ runs) above =
      ap (filter (λ other. is_lt (nat_cmp other number))) (numbers_step (p run) run (filter p runs))
      ∙ filter_step (λ other. is_lt (nat_cmp other number)) (p run) false run.number (numbers_of runs) (lt_not number run.number above.0)
      ∙ same_either (p run) (filter (λ other. is_lt (nat_cmp other number)) (numbers_of runs))
      ∙ none_lower number runs above.1

  all_higher : (number : ℕ) (runs : List Run) → Above number runs → filter (λ other. is_lt (nat_cmp number other)) (numbers_of runs) ≡ numbers_of runs
  all_higher number [] above = refl
  all_higher number (run ∷ runs) above =
      ap (filter (λ other. is_lt (nat_cmp number other))) (numbers_step (p run) run (filter p runs))
      ∙ filter_step (λ other. is_lt (nat_cmp number other)) (p run) true run.number (numbers_of runs) (lt_is number run.number above.0)
      ∙ (λ i. cond (p run) (run.number ∷ all_higher number runs above.1 i) (all_higher number runs above.1 i))
      ∙ sym (numbers_step (p run) run (filter p runs))

  -- one run changes, and keeps its number
  pub numbers-set : (runs : List Run) (place : ℕ) (run d : Run) → IsStrictlySortedBy nat_cmp (map number_of runs) → place < length runs → run.number ≡ (get_or runs place d).number → numbers_of (set runs place run) ≡ with_number run.number (p run) (numbers_of runs)
  unfolding IsStrictlySortedBy
  numbers-set [] place run d order within same = absurd (omega arith)
  numbers-set (old ∷ runs) zero run d order within same =
      let above : Above run.number runs = subst (λ (n : ℕ). Above n runs) (sym same) order.0 in
      let low : filter (λ other. is_lt (nat_cmp other run.number)) (numbers_of (old ∷ runs)) ≡ [] =
      ap (filter (λ other. is_lt (nat_cmp other run.number))) (numbers_step (p old) old (filter p runs))
      ∙ filter_step (λ other. is_lt (nat_cmp other run.number)) (p old) false old.number (numbers_of runs) (ap (λ (n : ℕ). is_lt (nat_cmp n run.number)) (sym same) ∙ not_self run.number)
      ∙ same_either (p old) _
      ∙ none_lower run.number runs above in
      let high : filter (λ other. is_lt (nat_cmp run.number other)) (numbers_of (old ∷ runs)) ≡ numbers_of runs =
      ap (filter (λ other. is_lt (nat_cmp run.number other))) (numbers_step (p old) old (filter p runs))
      ∙ filter_step (λ other. is_lt (nat_cmp run.number other)) (p old) false old.number (numbers_of runs) (ap (λ (n : ℕ). is_lt (nat_cmp run.number n)) (sym same) ∙ not_self run.number)
      ∙ same_either (p old) _
      ∙ all_higher run.number runs above in
      numbers_step (p run) run (filter p runs)
      ∙ with_step (p run) run.number (numbers_of runs)
      ∙ (λ i. sym low i ++ (cond (p run) (run.number ∷ []) [] ++ sym high i))
  numbers-set (old ∷ runs) (suc place) run d order within same =
      let less : nat_cmp old.number run.number ≡ Less = subst (λ (n : ℕ). nat_cmp old.number n ≡ Less) (sym same) (below_at old.number runs place d order.0 (omega arith)) in
      let rest = numbers-set runs place run d order.1 (omega arith) same in
      let low : filter (λ other. is_lt (nat_cmp other run.number)) (numbers_of (old ∷ runs)) ≡ cond (p old) (old.number ∷ filter (λ other. is_lt (nat_cmp other run.number)) (numbers_of runs)) (filter (λ other. is_lt (nat_cmp other run.number)) (numbers_of runs)) =
      ap (filter (λ other. is_lt (nat_cmp other run.number))) (numbers_step (p old) old (filter p runs))
      ∙ filter_step (λ other. is_lt (nat_cmp other run.number)) (p old) true old.number (numbers_of runs) (lt_is old.number run.number less) in
      let high : filter (λ other. is_lt (nat_cmp run.number other)) (numbers_of (old ∷ runs)) ≡ filter (λ other. is_lt (nat_cmp run.number other)) (numbers_of runs) =
      ap (filter (λ other. is_lt (nat_cmp run.number other))) (numbers_step (p old) old (filter p runs))
      ∙ filter_step (λ other. is_lt (nat_cmp run.number other)) (p old) false old.number (numbers_of runs) (lt_not old.number run.number less)
      ∙ same_either (p old) _ in
      numbers_step (p old) old (filter p (set runs place run))
      ∙ (λ i. cond (p old) (old.number ∷ rest i) (rest i))
      ∙ sym (lower_first (p old) old.number (filter (λ other. is_lt (nat_cmp other run.number)) (numbers_of runs)) _)
      ∙ (λ i. sym low i ++ (cond (p run) (run.number ∷ []) [] ++ sym high i))

-- ---- a search among rising numbers
map_self : (xs : List ℕ) → map (λ (n : ℕ). n) xs ≡ xs
map_self [] = refl
map_self (x ∷ xs) = ap (λ (ys : List ℕ). x ∷ ys) (map_self xs)

none_below : (number : ℕ) (xs : List ℕ) → AllByRecursion (λ m. nat_cmp number m ≡ Less) xs → filter (λ other. is_lt (nat_cmp other number)) xs ≡ []
none_below number [] above = refl
none_below number (x ∷ xs) above = rw (lt_not number x above.0) (none_below number xs above.1)

all_above : (number : ℕ) (xs : List ℕ) → AllByRecursion (λ m. nat_cmp number m ≡ Less) xs → filter (λ other. is_lt (nat_cmp number other)) xs ≡ xs
all_above number [] above = refl
all_above number (x ∷ xs) above = rw (lt_is number x above.0) (ap (λ (ys : List ℕ). x ∷ ys) (all_above number xs above.1))

less_at : (n : ℕ) (xs : List ℕ) (place d : ℕ) → AllByRecursion (λ m. nat_cmp n m ≡ Less) xs → place < length xs → nat_cmp n (get_or xs place d) ≡ Less
less_at n [] place d above within = absurd (omega arith)
less_at n (x ∷ xs) zero d above within = above.0
less_at n (x ∷ xs) (suc place) d above within = less_at n xs place d above.1 (omega arith)

found_low : (number : ℕ) (xs : List ℕ) (place : ℕ) → IsStrictlySortedBy nat_cmp xs → place < length xs → ((d : ℕ) → get_or xs place d ≡ number) → filter (λ other. is_lt (nat_cmp other number)) xs ≡ take place xs
unfolding IsStrictlySortedBy
found_low number [] place order within here = absurd (omega arith)
found_low number (x ∷ xs) zero order within here =
    let above = subst (λ (n : ℕ). AllByRecursion (λ m. nat_cmp n m ≡ Less) xs) (here 0) order.0 in
    rw (ap (λ (n : ℕ). is_lt (nat_cmp n number)) (here 0) ∙ not_self number) (none_below number xs above)
found_low number (x ∷ xs) (suc place) order within here =
    let less : nat_cmp x number ≡ Less = subst (λ (n : ℕ). nat_cmp x n ≡ Less) (here 0) (less_at x xs place 0 order.0 (omega arith)) in
    rw (lt_is x number less) (ap (λ (ys : List ℕ). x ∷ ys) (found_low number xs place order.1 (omega arith) here))

found_high : (number : ℕ) (xs : List ℕ) (place : ℕ) → IsStrictlySortedBy nat_cmp xs → place < length xs → ((d : ℕ) → get_or xs place d ≡ number) → filter (λ other. is_lt (nat_cmp number other)) xs ≡ drop (suc place) xs
unfolding IsStrictlySortedBy
found_high number [] place order within here = absurd (omega arith)
found_high number (x ∷ xs) zero order within here =
    let above = subst (λ (n : ℕ). AllByRecursion (λ m. nat_cmp n m ≡ Less) xs) (here 0) order.0 in
    rw (ap (λ (n : ℕ). is_lt (nat_cmp number n)) (here 0) ∙ not_self number) (all_above number xs above)
found_high number (x ∷ xs) (suc place) order within here =
    let less : nat_cmp x number ≡ Less = subst (λ (n : ℕ). nat_cmp x n ≡ Less) (here 0) (less_at x xs place 0 order.0 (omega arith)) in
    rw (lt_not x number less) (found_high number xs place order.1 (omega arith) here)

split_at : (xs : List ℕ) (place number : ℕ) → place < length xs → ((d : ℕ) → get_or xs place d ≡ number) → take place xs ++ (number ∷ drop (suc place) xs) ≡ xs
split_at [] place number within here = absurd (omega arith)
split_at (x ∷ xs) zero number within here = ap (λ (n : ℕ). n ∷ xs) (sym (here 0))
split_at (x ∷ xs) (suc place) number within here = ap (λ (ys : List ℕ). x ∷ ys) (split_at xs place number (omega arith) here)

split_between : (xs : List ℕ) (place : ℕ) → take place xs ++ drop place xs ≡ xs
split_between xs place = take-append-drop place xs

module _ (number : ℕ) (numbers : List ℕ) (order : IsStrictlySortedBy nat_cmp numbers) (place : ℕ) where
  pub kept-found : place < length numbers → ((d : ℕ) → get_or numbers place d ≡ number) → with_number number true numbers ≡ numbers
  kept-found within here =
      (λ i. found_low number numbers place order within here i ++ (number ∷ found_high number numbers place order within here i))
      ∙ split_at numbers place number within here

  pub taken-found : place < length numbers → ((d : ℕ) → get_or numbers place d ≡ number) → with_number number false numbers ≡ remove numbers place
  taken-found within here =
      λ i. found_low number numbers place order within here i ++ found_high number numbers place order within here i

  pub put-missed : (IsPartitionPoint (λ n. nat_cmp n number ≡ Less) (λ n. nat_cmp n number ≡ Greater) numbers place) → with_number number true numbers ≡ insert numbers place number
  put-missed parted =
      λ i. rows_before (λ (n : ℕ). n) nat_cmp_total number numbers place parted i ++ (number ∷ rows_after (λ (n : ℕ). n) nat_cmp_total number numbers place parted i)

  pub left-missed : (IsPartitionPoint (λ n. nat_cmp n number ≡ Less) (λ n. nat_cmp n number ≡ Greater) numbers place) → with_number number false numbers ≡ numbers
  left-missed parted =
      (λ i. rows_before (λ (n : ℕ). n) nat_cmp_total number numbers place parted i ++ rows_after (λ (n : ℕ). n) nat_cmp_total number numbers place parted i)
      ∙ split_between numbers place

  pub searched : IsNonDecreasingBy (λ n. ordering_index (nat_cmp n number)) numbers
  searched = search_rises (λ (n : ℕ). n) nat_cmp_total number numbers (subst (IsStrictlySortedBy nat_cmp) (sym (map_self numbers)) order)

pub same_from_cmp : (n m : ℕ) → nat_cmp n m ≡ Equal → n ≡ m
same_from_cmp n m is = grind (arith, nat_tests)
