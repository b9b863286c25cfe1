-- Laws of pages.
use Rattle.std.proofs.Common.{◌≡◌, refl, sym, ◌∙◌, ap, ap₂, ℕ, zero, suc, ◌+◌, ◌*◌, length, Bool, true, false, List, [], ◌∷◌, ◌++◌, map, take, drop, arith}
use Rattle.std.specs.Prelude.{cond, filter, min, nat_lt, Option, Some, slice_get, if◌then◌else◌, ◌&&◌}
use Rattle.std.specs.List.{enumerate_from, list_all}
use Rattle.std.proofs.Math.Nat.{suc-mul}
use Rattle.std.proofs.Math.Seq.{take-add}
use Rattle.std.proofs.lemmas.Bool.{and_parts, ltb-false, ltb-true}
use Rattle.std.proofs.lemmas.List.{drop_all, take_all}
use Rattle.af_listing.specs.Windows.{Cut, last_number}
use Rattle.af_listing.specs.Pages.{cut, shown_places}
use Rattle.af_listing.specs.Laws.{HiddenRowsAreNotTold, HiddenRowsChangeNothing, NumbersMayBeCut, PagesMakeTheListing, PagesTellShownRows, TotalsCountShownRows, WholeListingsAreCut, first_pages, is_told, rows_at}
use Rattle.af_listing.proofs.PageLemmas.{count_places}

map_take : {X Y : Type 0} (f : X → Y) (n : ℕ) (xs : List X) → map f (take n xs) ≡ take n (map f xs)
map_take f zero xs = refl
map_take f (suc n) [] = refl
map_take f (suc n) (x ∷ xs) = ap (λ ys. f x ∷ ys) (map_take f n xs)

map_drop : {X Y : Type 0} (f : X → Y) (n : ℕ) (xs : List X) → map f (drop n xs) ≡ drop n (map f xs)
map_drop f zero xs = refl
map_drop f (suc n) [] = refl
map_drop f (suc n) (x ∷ xs) = map_drop f n xs

map_cut : {X Y : Type 0} (f : X → Y) (window : Cut) (xs : List X) → map f (cut window xs) ≡ cut window (map f xs)
map_cut f window xs = map_take f window.limit (drop window.offset xs) ∙ ap (take window.limit) (map_drop f window.offset xs)

-- ---- what stands at the places of the shown rows

module _ {X : Type 0} (shown : X → Bool) where
  at_places : (at : ℕ → Option X) (n : ℕ) (rows : List X) → ((k : ℕ) → at (n + k) ≡ slice_get rows k)
      → map at (map (λ (it : ℕ × X). it.0) (filter (λ (it : ℕ × X). shown it.1) (enumerate_from n rows))) ≡ map Some (filter shown rows)
  at_places at n [] is = refl
  at_places at n (row ∷ rows) is =
      by (shown row) (at_places at (n + 1) rows (λ k. let same : (n + 1) + k ≡ n + suc k = omega arith in ap at same ∙ is (suc k)))
    where
      head : at n ≡ Some row
      head = let same : n ≡ n + 0 = omega arith in ap at same ∙ is 0

      by : (t : Bool) → map at (map (λ (it : ℕ × X). it.0) (filter (λ (it : ℕ × X). shown it.1) (enumerate_from (n + 1) rows))) ≡ map Some (filter shown rows)
          → map at (map (λ (it : ℕ × X). it.0) (cond t ((n, row) ∷ filter (λ (it : ℕ × X). shown it.1) (enumerate_from (n + 1) rows)) (filter (λ (it : ℕ × X). shown it.1) (enumerate_from (n + 1) rows))))
          ≡ map Some (cond t (row ∷ filter shown rows) (filter shown rows))
      by true after = ap₂ (λ (x : Option X) (xs : List (Option X)). x ∷ xs) head after
      by false after = after

  rows_shown : (rows : List X) → rows_at rows (shown_places shown rows) ≡ map Some (filter shown rows)
  rows_shown rows = at_places (slice_get rows) 0 rows (λ k. let same : 0 + k ≡ k = omega arith in ap (slice_get rows) same)

  pub pages_tell_shown_rows : PagesTellShownRows shown
  pages_tell_shown_rows window rows =
      map_cut (slice_get rows) window (shown_places shown rows) ∙ ap (cut window) (rows_shown rows) ∙ sym (map_cut Some window (filter shown rows))

  -- ---- hidden rows

  all_shown : (rows : List X) → list_all shown (filter shown rows) ≡ true
  all_shown [] = refl
  all_shown (row ∷ rows) = by (shown row) refl (all_shown rows)
    where
      by : (t : Bool) → shown row ≡ t → list_all shown (filter shown rows) ≡ true → list_all shown (cond t (row ∷ filter shown rows) (filter shown rows)) ≡ true
      by true is after = ap₂ (λ (t u : Bool). t && u) is after
      by false is after = after

  all_told : (rows : List X) → list_all (is_told shown) (map Some rows) ≡ list_all shown rows
  all_told [] = refl
  all_told (row ∷ rows) = ap (λ (t : Bool). shown row && t) (all_told rows)

  all_drop : (n : ℕ) (rows : List X) → list_all shown rows ≡ true → list_all shown (drop n rows) ≡ true
  all_drop zero rows all = all
  all_drop (suc n) [] all = refl
  all_drop (suc n) (row ∷ rows) all = all_drop n rows (and_parts (shown row) (list_all shown rows) all).1

  all_take : (n : ℕ) (rows : List X) → list_all shown rows ≡ true → list_all shown (take n rows) ≡ true
  all_take zero rows all = refl
  all_take (suc n) [] all = refl
  all_take (suc n) (row ∷ rows) all =
      let parts = and_parts (shown row) (list_all shown rows) all in
      ap₂ (λ (t u : Bool). t && u) parts.0 (all_take n rows parts.1)

  pub hidden_rows_are_not_told : HiddenRowsAreNotTold shown
  hidden_rows_are_not_told window rows =
      ap (list_all (is_told shown)) (pages_tell_shown_rows window rows)
      ∙ all_told (cut window (filter shown rows))
      ∙ all_take window.limit (drop window.offset (filter shown rows)) (all_drop window.offset (filter shown rows) (all_shown rows))

  pub hidden_rows_change_nothing : HiddenRowsChangeNothing shown
  hidden_rows_change_nothing window rows others same = (
    pages_tell_shown_rows window rows ∙ ap (λ (some : List X). map Some (cut window some)) same ∙ sym (pages_tell_shown_rows window others),
    ap (λ (some : List X). length some) same,
  )

  -- ---- totals

  pub totals_count_shown_rows : TotalsCountShownRows shown
  totals_count_shown_rows window row rows = by (shown row)
    where
      by : (t : Bool) → length (cond t (row ∷ filter shown rows) (filter shown rows)) ≡ (if t then 1 else 0) + length (filter shown rows)
      by true = omega arith
      by false = omega arith

  -- ---- all pages

  pages_so_far : (size count : ℕ) (rows : List X) → first_pages shown size count rows ≡ take (count * size) (shown_places shown rows)
  pages_so_far size zero rows = ap (λ (n : ℕ). take n (shown_places shown rows)) none
    where
      none : 0 ≡ 0 * size
      none = omega arith
  pages_so_far size (suc count) rows =
      ap (λ (places : List ℕ). places ++ take size (drop (count * size) (shown_places shown rows))) (pages_so_far size count rows)
      ∙ sym (ap (λ (n : ℕ). take n (shown_places shown rows)) (suc-mul count size) ∙ take-add (count * size) size (shown_places shown rows))

  pub pages_make_the_listing : PagesMakeTheListing shown
  pages_make_the_listing size count rows enough =
      let counted = count_places shown rows in
      ap (rows_at rows) (pages_so_far size count rows ∙ take_all (count * size) (shown_places shown rows) (omega (arith, enough, counted)))
      ∙ rows_shown rows

module _ {X : Type 0} (shown : X → Bool) where
  filter_all : (rows : List X) → list_all shown rows ≡ true → filter shown rows ≡ rows
  filter_all [] all = refl
  filter_all (row ∷ rows) all =
      let parts = and_parts (shown row) (list_all shown rows) all in
      ap (λ (t : Bool). cond t (row ∷ filter shown rows) (filter shown rows)) parts.0 ∙ ap (λ (some : List X). row ∷ some) (filter_all rows parts.1)

  pub whole_listings_are_cut : WholeListingsAreCut shown
  whole_listings_are_cut window rows all = (
    pages_tell_shown_rows shown window rows ∙ ap (λ (some : List X). map Some (cut window some)) (filter_all rows all),
    ap (λ (some : List X). length some) (filter_all rows all),
  )

pub numbers_may_be_cut : {X : Type 0} (rows : List X) → NumbersMayBeCut rows
numbers_may_be_cut {X} rows limit offset few = by (nat_lt last_number offset) refl
  where
    by : (t : Bool) → nat_lt last_number offset ≡ t → take limit (drop (min last_number offset) rows) ≡ take limit (drop offset rows)
    by true is =
        let past = ltb-true last_number offset is in
        ap (take limit) (drop_all (min last_number offset) rows (omega (arith, few, past)) ∙ sym (drop_all offset rows (omega (arith, few, past))))
    by false is =
        let within = ltb-false last_number offset is in
        let same : min last_number offset ≡ offset = omega (arith, within) in
        ap (λ (n : ℕ). take limit (drop n rows)) same
