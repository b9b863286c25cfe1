-- The page of a list whose rows are all shown.
use Rattle.std.proofs.Common.{◌≡◌, refl, sym, ◌∙◌, ap, ap₂, ℕ, zero, suc, ◌+◌, ◌-◌, ◌≤◌, length, Bool, true, false, List, [], ◌∷◌, map, take, drop, arith}
use Rattle.std.specs.Prelude.{◌&&◌, cond, filter, min, nat_lt, Option, None, Some}
use Rattle.std.specs.List.{enumerate_from, range_with_len}
use Rattle.std.proofs.lemmas.Bool.{ltb-false, ltb-true, true≢false}
use Rattle.std.proofs.lemmas.List.{drop_all, take_all}
use Rattle.std.proofs.lemmas.List.FromFn.{length-range_with_len}
use Rattle.af_listing.specs.Windows.{Cut}
use Rattle.af_policy.specs.Grants.{Readable}
use Rattle.af_listing.specs.Pages.{cut, is_shown, page_of, read_by, whole_page}

-- ---- numbers in a row, cut

drop_numbers : (n a total : ℕ) → n ≤ total → drop n (range_with_len a total) ≡ range_with_len (a + n) (total - n)
drop_numbers zero a total within =
    let none : a ≡ a + 0 = omega arith
    in let all : total ≡ total - 0 = omega arith
    in ap₂ (λ (b m : ℕ). range_with_len b m) none all
drop_numbers (suc n) a zero within = let none : suc n ≡ 0 = omega (arith, within) in cc
drop_numbers (suc n) a (suc total) within =
    let first : (a + 1) + n ≡ a + suc n = omega arith
    in let rest : total - n ≡ suc total - suc n = omega arith
    in drop_numbers n (a + 1) total (omega (arith, within)) ∙ ap₂ (λ (b m : ℕ). range_with_len b m) first rest

take_numbers : (n a total : ℕ) → n ≤ total → take n (range_with_len a total) ≡ range_with_len a n
take_numbers zero a total within = refl
take_numbers (suc n) a zero within = let none : suc n ≡ 0 = omega (arith, within) in cc
take_numbers (suc n) a (suc total) within = ap (λ (rest : List ℕ). a ∷ rest) (take_numbers n (a + 1) total (omega (arith, within)))

-- so many numbers after so many, of those from 0 on
pub numbers_cut : (limit offset total : ℕ) → range_with_len (min offset total) (min limit (total - min offset total)) ≡ take limit (drop offset (range_with_len 0 total))
numbers_cut limit offset total = by (nat_lt total offset) refl
  where
    counted : length (range_with_len 0 total) ≡ total
    counted = length-range_with_len 0 total

    some : (rest : ℕ) → range_with_len offset (min limit rest) ≡ take limit (range_with_len offset rest)
    some rest = at (nat_lt rest limit) refl
      where
        at : (t : Bool) → nat_lt rest limit ≡ t → range_with_len offset (min limit rest) ≡ take limit (range_with_len offset rest)
        at true is =
            let past = ltb-true rest limit is
            in let all : min limit rest ≡ rest = omega (arith, past)
            in let long = length-range_with_len offset rest
            in ap (range_with_len offset) all ∙ sym (take_all limit (range_with_len offset rest) (omega (arith, past, long)))
        at false is =
            let within = ltb-false rest limit is
            in let few : min limit rest ≡ limit = omega (arith, within)
            in ap (range_with_len offset) few ∙ sym (take_numbers limit offset rest within)

    by : (t : Bool) → nat_lt total offset ≡ t → range_with_len (min offset total) (min limit (total - min offset total)) ≡ take limit (drop offset (range_with_len 0 total))
    by true is =
        let past = ltb-true total offset is
        in let none : min limit (total - min offset total) ≡ 0 = omega (arith, past)
        in ap (range_with_len (min offset total)) none
        ∙ sym (ap (take limit) (drop_all offset (range_with_len 0 total) (omega (arith, past, counted))) ∙ take_all limit [] (omega arith))
    by false is =
        let within = ltb-false total offset is
        in let first : min offset total ≡ offset = omega (arith, within)
        in let zeroth : 0 + offset ≡ offset = omega arith
        in ap (λ (n : ℕ). range_with_len n (min limit (total - n))) first
        ∙ some (total - offset)
        ∙ sym (ap (take limit) (drop_numbers offset 0 total within ∙ ap (λ (n : ℕ). range_with_len n (total - offset)) zeroth))

-- ---- all rows

module _ {X : Type 0} (shown : X → Bool) (all : (row : X) → shown row ≡ true) where
  places_of_all : (n : ℕ) (rows : List X) → map (λ (it : ℕ × X). it.0) (filter (λ (it : ℕ × X). shown it.1) (enumerate_from n rows)) ≡ range_with_len n (length rows)
  places_of_all n [] = refl
  places_of_all n (row ∷ rows) =
      ap (λ (t : Bool). map (λ (it : ℕ × X). it.0) (cond t ((n, row) ∷ filter (λ (it : ℕ × X). shown it.1) (enumerate_from (n + 1) rows)) (filter (λ (it : ℕ × X). shown it.1) (enumerate_from (n + 1) rows)))) (all row)
      ∙ ap (λ (places : List ℕ). n ∷ places) (places_of_all (n + 1) rows)

  count_of_all : (rows : List X) → length (filter shown rows) ≡ length rows
  count_of_all [] = refl
  count_of_all (row ∷ rows) = ap (λ (t : Bool). length (cond t (row ∷ filter shown rows) (filter shown rows))) (all row) ∙ ap suc (count_of_all rows)

  pub page_of_all : (window : Cut) (rows : List X) → whole_page window (length rows) ≡ page_of shown window rows
  page_of_all window rows =
      ap₂ (λ (places : List ℕ) (total : ℕ). record { places = places; total = total })
      (ap (cut window) (sym (places_of_all 0 rows))) (sym (count_of_all rows))

-- who reads all DAGs is shown all rows that are not of runs, and who reads all runs too, all rows
module _ (readable : Readable) (all : (dag : List ℕ) → readable.dags dag ≡ true) where
  pub all_are_shown : (of_run : Bool) → of_run ≡ false → (named : Option (List ℕ)) → is_shown (read_by readable of_run) named ≡ true
  all_are_shown true none named = absurd (true≢false none)
  all_are_shown false none None = refl
  all_are_shown false none (Some dag) = all dag

  pub all_runs_are_shown : ((dag : List ℕ) → readable.runs dag ≡ true) → (of_run : Bool) (named : Option (List ℕ)) → is_shown (read_by readable of_run) named ≡ true
  all_runs_are_shown runs of_run None = refl
  all_runs_are_shown runs false (Some dag) = all dag
  all_runs_are_shown runs true (Some dag) = (λ i. all dag i && runs dag i)
