-- Laws of pages, over any test of which rows are shown.
use Rattle.std.specs.Prelude.{◌≡◌, ℕ, zero, suc, ◌+◌, ◌*◌, ◌≤◌, min, List, [], ◌∷◌, ◌++◌, length, map, filter, Bool, true, false, if◌then◌else◌, Option, Some, None, slice_get}
use Rattle.std.specs.List.{list_all}
use Rattle.af_listing.specs.Windows.{Cut, last_number}
use Rattle.af_listing.specs.Pages.{cut, page_of}

-- what stands at these places of a list
abbrev pub rows_at : {X : Type 0} → List X → List ℕ → List (Option X)
rows_at rows places = map (slice_get rows) places

-- at the places of a page stand the rows that the page's cut takes of those that are shown: filter, drop, take
abbrev pub PagesTellShownRows : {X : Type 0} → (X → Bool) → Type 0
PagesTellShownRows {X} shown =
    (window : Cut) (rows : List X) → rows_at rows (page_of shown window rows).places ≡ map Some (cut window (filter shown rows))

-- there is a row, and it is shown
abbrev pub is_told : {X : Type 0} → (X → Bool) → Option X → Bool
is_told shown None = false
is_told shown (Some row) = shown row

abbrev pub HiddenRowsAreNotTold : {X : Type 0} → (X → Bool) → Type 0
HiddenRowsAreNotTold {X} shown =
    (window : Cut) (rows : List X) → list_all (is_told shown) (rows_at rows (page_of shown window rows).places) ≡ true

-- each row of the whole list counts if it is shown, on whatever page it stands
abbrev pub TotalsCountShownRows : {X : Type 0} → (X → Bool) → Type 0
TotalsCountShownRows {X} shown =
    (window : Cut) (row : X) (rows : List X) → (page_of shown window (row ∷ rows)).total ≡ (if shown row then 1 else 0) + (page_of shown window rows).total

-- lists with the same shown rows, whatever rows are hidden between them, have pages of the same rows and the same total
abbrev pub HiddenRowsChangeNothing : {X : Type 0} → (X → Bool) → Type 0
HiddenRowsChangeNothing {X} shown =
    (window : Cut) (rows others : List X) → filter shown rows ≡ filter shown others
    → (rows_at rows (page_of shown window rows).places ≡ rows_at others (page_of shown window others).places)
    × ((page_of shown window rows).total ≡ (page_of shown window others).total)

-- the places of the first pages of a size, one page after the other
abbrev pub first_pages : {X : Type 0} → (X → Bool) → ℕ → ℕ → List X → List ℕ
first_pages shown size zero rows = []
first_pages shown size (suc count) rows =
    first_pages shown size count rows ++ (page_of shown (record { limit = size; offset = count * size }) rows).places

-- where so many pages have room for all shown rows, they tell them all, in order, each once
abbrev pub PagesMakeTheListing : {X : Type 0} → (X → Bool) → Type 0
PagesMakeTheListing {X} shown =
    (size count : ℕ) (rows : List X) → length (filter shown rows) ≤ count * size
    → rows_at rows (first_pages shown size count rows) ≡ map Some (filter shown rows)

-- where all rows are shown, the page is cut of the list itself, and the total is its length
abbrev pub WholeListingsAreCut : {X : Type 0} → (X → Bool) → Type 0
WholeListingsAreCut {X} shown =
    (window : Cut) (rows : List X) → list_all shown rows ≡ true
    → (rows_at rows (page_of shown window rows).places ≡ map Some (cut window rows)) × ((page_of shown window rows).total ≡ length rows)

-- an offset that is no number of 64 bits passes over as much as the last of these: all
abbrev pub NumbersMayBeCut : {X : Type 0} → List X → Type 0
NumbersMayBeCut {X} rows =
    (limit offset : ℕ) → length rows ≤ last_number
    → cut (record { limit = limit; offset = min last_number offset }) rows ≡ cut (record { limit = limit; offset = offset }) rows
