-- A page of the rows so far, and of one row more.
use Rattle.std.proofs.Common.{◌≡◌, refl, sym, ◌∙◌, ap, ap₂, ℕ, ◌+◌, ◌<◌, ◌≤◌, length, get_or, Bool, true, false, nat_lt, List, [], ◌∷◌, ◌++◌, map, take, drop, arith}
use Rattle.std.specs.Prelude.{filter, not, ◌&&◌, cond, if◌then◌else◌}
use Rattle.std.specs.List.{enumerate_from}
use Rattle.std.proofs.lemmas.Bool.{le-ltb, ltb-true, ltb-false}
use Rattle.std.proofs.lemmas.List.{append-nil, drop-append-le, drop_all, length-append, length-take-le, map-append, take-append-le, take_all, take_more}
use Rattle.std.proofs.lemmas.List.Elements.{filter-append}
use Rattle.af_listing.specs.Windows.{Cut}
use Rattle.af_listing.specs.Pages.{Told, cut, page_of, shown_places, with_cut, with_place, with_row}

module _ {X : Type 0} where
  -- the rows with their places, and one more
  numbered_last : (n : ℕ) (rows : List X) (row : X) → enumerate_from n (rows ++ row ∷ []) ≡ enumerate_from n rows ++ (n + length rows, row) ∷ []
  numbered_last n [] row = ap (λ (k : ℕ). (k, row) ∷ []) (omega arith)
  numbered_last n (first ∷ rows) row =
      let at : (n + 1) + length rows ≡ n + length (first ∷ rows) = omega arith in
      ap (λ (rest : List (ℕ × X)). (n, first) ∷ rest) (numbered_last (n + 1) rows row ∙ ap (λ (k : ℕ). enumerate_from (n + 1) rows ++ (k, row) ∷ []) at)

module _ {X : Type 0} (shown : X → Bool) where
  abbrev counted : ℕ → X → List ℕ
  counted place row = map (λ (it : ℕ × X). it.0) (filter (λ (it : ℕ × X). shown it.1) ((place, row) ∷ []))

  places_last : (rows : List X) (row : X) → shown_places shown (rows ++ row ∷ []) ≡ shown_places shown rows ++ counted (length rows) row
  places_last rows row =
      ap (λ (all : List (ℕ × X)). map (λ (it : ℕ × X). it.0) (filter (λ (it : ℕ × X). shown it.1) all)) (numbered_last 0 rows row)
      ∙ ap (map (λ (it : ℕ × X). it.0)) (filter-append (λ (it : ℕ × X). shown it.1) (enumerate_from 0 rows) ((0 + length rows, row) ∷ []))
      ∙ map-append (λ (it : ℕ × X). it.0) (filter (λ (it : ℕ × X). shown it.1) (enumerate_from 0 rows)) (filter (λ (it : ℕ × X). shown it.1) ((0 + length rows, row) ∷ []))
      ∙ ap (λ (place : ℕ). shown_places shown rows ++ counted place row) none
    where
      none : 0 + length rows ≡ length rows
      none = omega arith

  -- as many places as rows
  count_from : (n : ℕ) (rows : List X) → length (map (λ (it : ℕ × X). it.0) (filter (λ (it : ℕ × X). shown it.1) (enumerate_from n rows))) ≡ length (filter shown rows)
  count_from n [] = refl
  count_from n (row ∷ rows) = by (shown row) (count_from (n + 1) rows)
    where
      by : (t : Bool) → length (map (λ (it : ℕ × X). it.0) (filter (λ (it : ℕ × X). shown it.1) (enumerate_from (n + 1) rows))) ≡ length (filter shown rows)
          → length (map (λ (it : ℕ × X). it.0) (cond t ((n, row) ∷ filter (λ (it : ℕ × X). shown it.1) (enumerate_from (n + 1) rows)) (filter (λ (it : ℕ × X). shown it.1) (enumerate_from (n + 1) rows))))
          ≡ length (cond t (row ∷ filter shown rows) (filter shown rows))
      by true after = omega (arith, after)
      by false after = after

  pub count_places : (rows : List X) → length (shown_places shown rows) ≡ length (filter shown rows)
  count_places rows = count_from 0 rows

-- ---- one place more behind a cut

abbrev with_room : ℕ → List ℕ → ℕ → List ℕ
with_room limit taken place = if nat_lt (length taken) limit then taken ++ place ∷ [] else taken

take_last : (limit : ℕ) (places : List ℕ) (place : ℕ) → take limit (places ++ place ∷ []) ≡ with_room limit (take limit places) place
take_last limit places place = by (nat_lt (length places) limit) refl
  where
    by : (t : Bool) → nat_lt (length places) limit ≡ t → take limit (places ++ place ∷ []) ≡ with_room limit (take limit places) place
    by true is =
        let short = ltb-true (length places) limit is in
        let more = length-append places (place ∷ []) in
        take_all limit (places ++ place ∷ []) (omega (arith, short, more))
        ∙ sym (ap (λ (t : Bool). if t then places ++ place ∷ [] else places) is)
        ∙ sym (ap (λ (taken : List ℕ). with_room limit taken place) (take_all limit places (omega (arith, short))))
    by false is =
        let long = ltb-false (length places) limit is in
        let full = length-take-le limit places long in
        take-append-le limit places (place ∷ []) long
        ∙ sym (ap (λ (t : Bool). if t then take limit places ++ place ∷ [] else take limit places) (le-ltb (length (take limit places)) limit (omega (arith, full))))

cut_last : (window : Cut) (places : List ℕ) (place : ℕ) → cut window (places ++ place ∷ []) ≡ with_cut window (length places) (cut window places) place
cut_last window places place = by (nat_lt (length places) window.offset) refl
  where
    by : (t : Bool) → nat_lt (length places) window.offset ≡ t → cut window (places ++ place ∷ []) ≡ (if not t && nat_lt (length (cut window places)) window.limit then cut window places ++ place ∷ [] else cut window places)
    by true is =
        let short = ltb-true (length places) window.offset is in
        let more = length-append places (place ∷ []) in
        ap (take window.limit) (drop_all window.offset (places ++ place ∷ []) (omega (arith, short, more)) ∙ sym (drop_all window.offset places (omega (arith, short))))
    by false is =
        let long = ltb-false (length places) window.offset is in
        ap (take window.limit) (drop-append-le window.offset places (place ∷ []) long)
        ∙ take_last window.limit (drop window.offset places) place

-- ---- one row more

abbrev told : List ℕ → ℕ → Told
told places total = record { places = places; total = total }

module _ {X : Type 0} (shown : X → Bool) (window : Cut) (rows : List X) (row : X) where
  pub page_shown : shown row ≡ true → with_place window (length rows) (page_of shown window rows) ≡ page_of shown window (rows ++ row ∷ [])
  page_shown is =
      let places = shown_places shown rows in
      let one = ap (λ (t : Bool). map (λ (it : ℕ × X). it.0) (cond t ((length rows, row) ∷ []) [])) is in
      let more = ap (λ (some : List X). length some) (filter-append shown rows (row ∷ [])) ∙ length-append (filter shown rows) (filter shown (row ∷ [])) ∙ ap (λ (t : Bool). length (filter shown rows) + length (cond t (row ∷ []) [])) is in
      ap₂ told
      (sym (ap (cut window) (places_last shown rows row ∙ ap (λ (last : List ℕ). places ++ last) one) ∙ cut_last window places (length rows)
      ∙ ap (λ (n : ℕ). with_cut window n (cut window places) (length rows)) (count_places shown rows)))
      (sym more)

  pub page_hidden : shown row ≡ false → page_of shown window rows ≡ page_of shown window (rows ++ row ∷ [])
  page_hidden is =
      let places = shown_places shown rows in
      let none = ap (λ (t : Bool). map (λ (it : ℕ × X). it.0) (cond t ((length rows, row) ∷ []) [])) is in
      let same = filter-append shown rows (row ∷ []) ∙ ap (λ (t : Bool). filter shown rows ++ cond t (row ∷ []) []) is ∙ append-nil (filter shown rows) in
      ap₂ told
      (sym (ap (cut window) (places_last shown rows row ∙ ap (λ (last : List ℕ). places ++ last) none ∙ append-nil places)))
      (sym (ap (λ (some : List X). length some) same))

module _ {X : Type 0} (shown : X → Bool) (window : Cut) (rows : List X) (place : ℕ) (row : X) (inside : place < length rows) (is : row ≡ get_or rows place row) where
  one_more : take (place + 1) rows ≡ take place rows ++ row ∷ []
  one_more = take_more rows place row inside ∙ ap (λ (x : X). take place rows ++ x ∷ []) (sym is)

  so_far : length (take place rows) ≡ place
  so_far = length-take-le place rows (omega (arith, inside))

  -- the page of the rows up to a place, and of the row at it
  pub page_next : with_row window place (shown row) (page_of shown window (take place rows)) ≡ page_of shown window (take (place + 1) rows)
  page_next = by (shown row) refl
    where
      by : (t : Bool) → shown row ≡ t → with_row window place t (page_of shown window (take place rows)) ≡ page_of shown window (take (place + 1) rows)
      by true shows =
          ap (λ (k : ℕ). with_place window k (page_of shown window (take place rows))) (sym so_far)
          ∙ page_shown shown window (take place rows) row shows
          ∙ sym (ap (page_of shown window) one_more)
      by false hides = page_hidden shown window (take place rows) row hides ∙ sym (ap (page_of shown window) one_more)

pub total_next : (window : Cut) (place : ℕ) (t : Bool) (page : Told) → (with_row window place t page).total ≤ page.total + 1
total_next window place true page = omega arith
total_next window place false page = omega arith
