-- Rows in order that are put one after another, each after those before it.
use Rattle.std.proofs.Common.{arith, refl, sym, ◌≡◌, ◌∙◌, ap, ℕ, ◌<◌, ◌+◌, List, [], ◌∷◌, ◌++◌, map, get_or, take, drop, length, zero, suc}
use Rattle.std.specs.Prelude.{All, Err}
use Rattle.std.specs.List.{AllByRecursion}
use Rattle.std.specs.List.Sorted.{IsStrictlySortedBy}
use Rattle.std.specs.Ordering.{nat_cmp}
use Rattle.std.specs.declared.cmp.Ordering.TheVariants.{Less}
use Rattle.std.specs.Cmp.Lexicographic.{slice_cmp, nat_list_cmp_total}
use Rattle.std.proofs.lemmas.List.{drop_all, length-take, take_all, take_more}
use Rattle.std.proofs.lemmas.List.Elements.{All-cons, All-nil}
use Rattle.af_names.proofs.OrderLemmas.{order-take}
use Rattle.af_base.specs.Ordered.{AreInOrder, with_row}
use Rattle.af_base.specs.Places.{FitsAt}
use Rattle.af_base.proofs.OrderedLemmas.{place_from_search, with_row-is_insert}

module _ {X : Type 0} (key_of : X → List ℕ) where
  at_place : (P : List ℕ → Type 0) (rows : List X) (place : ℕ) (d : X) → AllByRecursion P (map key_of rows) → place < length rows → P (key_of (get_or rows place d))
  at_place P [] place d all within = absurd (omega arith)
  at_place P (row ∷ rows) zero d all within = all.0
  at_place P (row ∷ rows) (suc place) d all within = at_place P rows place d all.1 (omega arith)

  -- the keys of the rows before a place are below that of the row there
  below : (rows : List X) (place : ℕ) (d : X) → AreInOrder key_of rows → place < length rows → All (λ (row : X). slice_cmp nat_cmp (key_of row) (key_of (get_or rows place d)) ≡ Less) (take place rows)
  unfolding IsStrictlySortedBy
  below [] place d order within = absurd (omega arith)
  below (row ∷ rows) zero d order within = All-nil (λ (other : X). slice_cmp nat_cmp (key_of other) (key_of row) ≡ Less)
  below (row ∷ rows) (suc place) d order within =
      All-cons (λ (other : X). slice_cmp nat_cmp (key_of other) (key_of (get_or rows place d)) ≡ Less) row (take place rows)
      (at_place (λ key. slice_cmp nat_cmp (key_of row) key ≡ Less) rows place d order.0 (omega arith))
      (below rows place d order.1 (omega arith))

  module _ (rows : List X) (place : ℕ) (d : X) (order : AreInOrder key_of rows) (within : place < length rows) where
    -- it fits after them
    pub fits_last : FitsAt key_of (take place rows) (key_of (get_or rows place d)) place
    fits_last =
        let long = length-take place rows in
        let before = below rows place d order within in
        place_from_search key_of (take place rows) (key_of (get_or rows place d)) (Err place) (order-take key_of nat_list_cmp_total place rows order) (omega (arith, long))
        (λ _. ((λ k e low high. before k e (omega (arith, long))), (λ k e low high. absurd (omega (arith, long)))))

    pub put_last : with_row key_of (take place rows) (get_or rows place d) ≡ take (place + 1) rows
    put_last =
        let long = length-take place rows in
        with_row-is_insert key_of (take place rows) (get_or rows place d) place fits_last
        ∙ (λ i. take_all place (take place rows) (omega (arith, long)) i ++ get_or rows place d ∷ drop_all place (take place rows) (omega (arith, long)) i)
        ∙ sym (take_more rows place d within)
