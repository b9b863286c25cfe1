-- Rows in order of a key: what a search found, and that they stay in order.
use Rattle.std.proofs.Common.{arith, refl, ◌≡◌, ◌∙◌, ap, ℕ, ◌<◌, ◌≤◌, List, [], ◌∷◌, ◌++◌, get_or, set, take, drop, suc, true, false, not, length}
use Rattle.std.specs.Prelude.{filter, insert, Some, Result, Ok, Err, MatchResult}
use Rattle.std.specs.List.{HoldsAt}
use Rattle.std.specs.List.Sorted.{IsStrictlySortedBy, IsNonDecreasingBy, IsPartitionPoint, IsSearchInRange, IsBinarySearchResult}
use Rattle.std.specs.Ordering.{nat_cmp, is_lt, is_eq, ordering_index}
use Rattle.std.specs.declared.cmp.Ordering.TheVariants.{Less, Equal, Greater}
use Rattle.std.specs.Cmp.Lexicographic.{slice_cmp, nat_list_cmp_total, texts_ties}
use Rattle.std.proofs.Math.Seq.{map-set_same}
use Rattle.af_names.proofs.OrderLemmas.{rows_before, rows_after, order-inserted, order-filter, list_any-only, list_any-none, map-only, filter-only, filter-none, find-only, find-none, search_alone, search_rises, search_none}
use Rattle.af_base.specs.Ordered.{AreInOrder, has_key, row_of, with_row, with_change, without_row}
use Rattle.af_base.specs.Places.{StandsAt, FitsAt}

pub order-empty : {X : Type 0} (key_of : X → List ℕ) → AreInOrder key_of []
unfolding IsStrictlySortedBy
order-empty key_of = tt

module _ {X : Type 0} (key_of : X → List ℕ) (rows : List X) where
  -- what a search for a key found
  stands_at : (key : List ℕ) (place : ℕ) → AreInOrder key_of rows → place < length rows → HoldsAt (λ (row : X). slice_cmp nat_cmp (key_of row) key ≡ Equal) rows place → StandsAt key_of rows key place
  stands_at key place order within found =
      let here : (d : X) → has_key key_of key (get_or rows place d) ≡ true = λ d. texts_ties (key_of (get_or rows place d)) key ∙ ap is_eq (found d) in
      record {
        within = within;
        there = list_any-only (has_key key_of key) rows place within here;
        here = here;
        alone = λ other d inside apart. texts_ties (key_of (get_or rows other d)) key ∙ search_alone key_of nat_list_cmp_total key rows place order within found other d inside apart;
      }

  -- where a search for a key ended that found none
  fits_at : (key : List ℕ) (place : ℕ) → AreInOrder key_of rows → place ≤ length rows → (IsNonDecreasingBy (λ (row : X). ordering_index (slice_cmp nat_cmp (key_of row) key)) rows → IsPartitionPoint (λ (row : X). slice_cmp nat_cmp (key_of row) key ≡ Less) (λ (row : X). slice_cmp nat_cmp (key_of row) key ≡ Greater) rows place) → FitsAt key_of rows key place
  fits_at key place order within ended =
      let parted = ended (search_rises key_of nat_list_cmp_total key rows order) in
      let none : (other : ℕ) (d : X) → other < length rows → has_key key_of key (get_or rows other d) ≡ false = λ other d inside. texts_ties (key_of (get_or rows other d)) key ∙ search_none key_of nat_list_cmp_total key rows place parted other d inside in
      record {
        within = within;
        absent = list_any-none (has_key key_of key) rows none;
        none = find-none (has_key key_of key) rows none;
        parted = parted;
      }

  -- where a search for a key ended
  pub place_from_search : (key : List ℕ) (r : Result ℕ ℕ) → AreInOrder key_of rows → IsSearchInRange r (length rows) → IsBinarySearchResult (λ (row : X). slice_cmp nat_cmp (key_of row) key) rows r → MatchResult r (StandsAt key_of rows key) (FitsAt key_of rows key)
  place_from_search key (Ok place) order within found = stands_at key place order within found
  place_from_search key (Err place) order within ended = fits_at key place order within ended

  -- where no row has the key none is taken out
  pub without_row-none : (key : List ℕ) (place : ℕ) → FitsAt key_of rows key place → without_row key_of rows key ≡ rows
  without_row-none key place fits = filter-none (has_key key_of key) rows (λ other d inside. texts_ties (key_of (get_or rows other d)) key ∙ search_none key_of nat_list_cmp_total key rows place fits.parted other d inside)

  -- an insertion where the row fits
  module _ (row : X) (place : ℕ) (fits : FitsAt key_of rows (key_of row) place) where
    pub with_row-is_insert : with_row key_of rows row ≡ insert rows place row
    with_row-is_insert =
        ap (λ (front : List X). front ++ row ∷ filter (λ (other : X). is_lt (slice_cmp nat_cmp (key_of row) (key_of other))) rows) (rows_before key_of nat_list_cmp_total (key_of row) rows place fits.parted)
        ∙ ap (λ (back : List X). take place rows ++ row ∷ back) (rows_after key_of nat_list_cmp_total (key_of row) rows place fits.parted)

    pub order-insert : AreInOrder key_of rows → AreInOrder key_of (insert rows place row)
    order-insert order = order-inserted key_of nat_list_cmp_total rows row place order fits.parted

  -- a change of the row that stands at a place
  module _ (key : List ℕ) (place : ℕ) (stands : StandsAt key_of rows key place) where
    pub with_change-is_set : (changed : X → X) (d : X) → with_change key_of changed rows key ≡ set rows place (changed (get_or rows place d))
    with_change-is_set changed d = map-only (has_key key_of key) changed rows place d stands.within stands.here stands.alone

    pub row_of-is : (d : X) → row_of key_of rows key ≡ Some (get_or rows place d)
    row_of-is d = find-only (has_key key_of key) rows place d stands.within stands.here stands.alone

    pub without_row-is_remove : without_row key_of rows key ≡ take place rows ++ drop (suc place) rows
    without_row-is_remove = filter-only (has_key key_of key) rows place stands.within stands.here stands.alone

  pub order-set : (place : ℕ) (row d : X) → key_of row ≡ key_of (get_or rows place d) → AreInOrder key_of rows → AreInOrder key_of (set rows place row)
  order-set place row d same order = rw (map-set_same key_of rows place row d same) order

  pub order-without : (key : List ℕ) → AreInOrder key_of rows → AreInOrder key_of (without_row key_of rows key)
  order-without key order = order-filter key_of nat_list_cmp_total (λ (row : X). not (has_key key_of key row)) rows order

-- the first row fits at the first place
pub fits_empty : {X : Type 0} (key_of : X → List ℕ) (key : List ℕ) → FitsAt key_of [] key 0
fits_empty key_of key = record {
  within = omega arith;
  absent = refl;
  none = refl;
  parted = ((λ j d low high. absurd (omega arith)), (λ j d low high. absurd (omega arith)));
}
