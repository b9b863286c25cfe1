-- Rows whose numbers rise: where a number can stand, and what a search for it passes.
use Rattle.std.proofs.Common.{◌≡◌, ◌≢◌, sym, ◌∙◌, ap, subst, ℕ, zero, suc, ◌<◌, ◌≤◌, ◌+◌, ◌-◌, List, map, length, get_or, true, false, ◌==◌, ◌⊎◌, ⊎_elim, arith}
use Rattle.std.specs.Prelude.{min}
use Rattle.std.proofs.lemmas.Bool.Decides.{nat_tests}
use Rattle.std.proofs.lemmas.Bool.{cases_lt}
use Rattle.std.proofs.lemmas.List.{get_or-map, length-map, get_or_default}
use Rattle.std.proofs.lemmas.Map.Keys.{below_from_sorted}
use Rattle.af_runs.specs.Places.{StandsAt, StandsNowhere}
use Rattle.af_runs.specs.Runs.{AreRuns, is_numbered}
use Rattle.af_runs.specs.declared.run.Run.{Run}

apart_numbers : (n m : ℕ) → n ≢ m → (n == m) ≡ false
apart_numbers n m apart = grind (arith, nat_tests)

grown : (n m : ℕ) → m ≢ n → n ≤ m → n < m
grown n m apart more = omega arith

pub same_numbers : (n m : ℕ) → n ≡ m → (n == m) ≡ true
same_numbers n m same = grind (arith, nat_tests)

pub number_from : (n m : ℕ) → (n == m) ≡ true → n ≡ m
number_from n m is = grind (arith, nat_tests)

module _ (runs : List Run) (next : ℕ) (are : AreRuns runs next) where
  abbrev number_at : Run → ℕ → ℕ
  number_at d k = (get_or runs k d).number

  pub rises : (i j : ℕ) (d : Run) → i < j → j < length runs → number_at d i < number_at d j
  rises i j d below within =
      let numbers : List ℕ = map (λ (run : Run). run.number) runs in
      let long : length numbers ≡ length runs = length-map runs (λ (run : Run). run.number) in
      let one : get_or numbers i 0 ≡ number_at d i = get_or-map (λ (run : Run). run.number) runs i d 0 (omega arith) in
      let other : get_or numbers j 0 ≡ number_at d j = get_or-map (λ (run : Run). run.number) runs j d 0 within in
      let up : get_or numbers i 0 < get_or numbers j 0 = below_from_sorted numbers i j 0 are.in_order below (omega arith) in
      omega arith

  -- a number stands at a place below it
  pub place_below : (k : ℕ) (d : Run) → k < length runs → k < number_at d k
  place_below zero d within = are.positive 0 d within
  place_below (suc k) d within =
      let before = place_below k d (omega arith) in
      let up = rises k (suc k) d (omega arith) within in
      omega arith

  -- and there are at most as many rows after it as numbers are above it
  pub rows_after_few : (m k : ℕ) (d : Run) → k + m + 1 ≡ length runs → number_at d k + m < next
  rows_after_few zero k d long =
      let below = are.numbered k d (omega arith) in
      omega arith
  rows_after_few (suc m) k d long =
      let rest = rows_after_few m (suc k) d (omega arith) in
      let up = rises k (suc k) d (omega arith) (omega arith) in
      omega arith

  pub not_numbered : (number k : ℕ) (d : Run) → number_at d k ≢ number → is_numbered number (get_or runs k d) ≡ false
  not_numbered number k d apart = apart_numbers (number_at d k) number apart

  pub stands_here : (number place : ℕ) (e : Run) → place < length runs → number_at e place ≡ number → StandsAt runs number place
  stands_here number place e within is = record {
    within = within;
    here = λ d. same_numbers (number_at d place) number (ap (λ (run : Run). run.number) (get_or_default runs place d e within) ∙ is);
    alone = λ other d inside apart.
        let at : number_at d place ≡ number = ap (λ (run : Run). run.number) (get_or_default runs place d e within) ∙ is in
        ⊎_elim
        (λ below. let up = rises other place d below within in not_numbered number other d (omega arith))
        (λ above. let up = rises place other d (omega arith) inside in not_numbered number other d (omega arith))
        (cases_lt other place);
  }

  -- ---- where each number up to the last has a row, that row stands right before it
  place_before : (last k : ℕ) (d : Run) → next ≡ last + 1 → length runs ≡ last → k < length runs → number_at d k ≡ k + 1
  place_before last k d is all within =
      let above = place_below k d within in
      let few = rows_after_few (length runs - k - 1) k d (omega arith) in
      omega arith

  pub stands_before : (last number : ℕ) → next ≡ last + 1 → length runs ≡ last → 0 < number → number ≤ last → StandsAt runs number (number - 1)
  stands_before last number is all some within = record {
    within = omega arith;
    here = λ d. let here = place_before last (number - 1) d is all (omega arith) in same_numbers (number_at d (number - 1)) number (omega arith);
    alone = λ other d inside apart. let there = place_before last other d is all inside in not_numbered number other d (omega arith);
  }

  -- and no other number has one
  pub stands_nowhere : (last number : ℕ) → next ≡ last + 1 → length runs ≡ last → (number ≡ 0) ⊎ (last < number) → StandsNowhere runs number
  stands_nowhere last number is all out = record {
    none = λ other d inside.
        let there = place_before last other d is all inside in
        ⊎_elim (λ zero_is. not_numbered number other d (omega arith)) (λ past. not_numbered number other d (omega arith)) out;
  }

  -- ---- the search: the places that it leaves out
  pub window_low : (last number k : ℕ) (d : Run) → next ≡ last + 1 → k < length runs → k < (length runs - (last - number)) - 1 → is_numbered number (get_or runs k d) ≡ false
  window_low last number k d is within below =
      let few = rows_after_few (length runs - k - 1) k d (omega arith) in
      not_numbered number k d (omega arith)

  pub window_high : (number k : ℕ) (d : Run) → k < length runs → min number (length runs) ≤ k → is_numbered number (get_or runs k d) ≡ false
  window_high number k d within above =
      let up = place_below k d within in
      not_numbered number k d (omega arith)

  pub step_low : (number middle : ℕ) (e : Run) → middle < length runs → number_at e middle < number → (k : ℕ) (d : Run) → k < middle + 1 → k < length runs → is_numbered number (get_or runs k d) ≡ false
  step_low number middle e within less k d below inside =
      let at : number_at d middle ≡ number_at e middle = ap (λ (run : Run). run.number) (get_or_default runs middle d e within) in
      ⊎_elim
      (λ lower. let up = rises k middle d lower within in not_numbered number k d (omega arith))
      (λ same. let here : k ≡ middle = omega arith in not_numbered number k d (subst (λ (p : ℕ). number_at d p ≢ number) (sym here) (omega arith)))
      (cases_lt k middle)

  pub step_high : (number middle : ℕ) (e : Run) → middle < length runs → number_at e middle ≢ number → number ≤ number_at e middle → (k : ℕ) (d : Run) → middle ≤ k → k < length runs → is_numbered number (get_or runs k d) ≡ false
  step_high number middle e within apart more k d above inside =
      let up_from : number < number_at e middle = grown number (number_at e middle) apart more in
      let at : number_at d middle ≡ number_at e middle = ap (λ (run : Run). run.number) (get_or_default runs middle d e within) in
      ⊎_elim
      (λ higher. let up = rises middle k d higher inside in not_numbered number k d (omega arith))
      (λ same. let here : k ≡ middle = omega arith in not_numbered number k d (subst (λ (p : ℕ). number_at d p ≢ number) (sym here) (omega arith)))
      (cases_lt middle k)
