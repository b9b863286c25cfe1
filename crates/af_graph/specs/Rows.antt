-- A graph over the places 0, 1, .. of a list, given by its rows: at each place a list of other places.
use Rattle.std.specs.Prelude.{ℕ, ◌<◌, ◌-◌, ◌==◌, Bool, false, List, [], ◌∷◌, ◌++◌, map, length, slice_index_or, filter, All, if◌then◌else◌}
use Rattle.std.specs.List.{list_any, range_with_len, slice_get}
use Rattle.std.specs.Option.{option_map_or}

-- the places of a list's elements: 0, 1, ..
abbrev pub places : {X : Type 0} → List X → List ℕ
places xs = range_with_len 0 (length xs)

-- the row of a place
abbrev pub row_at : List (List ℕ) → ℕ → List ℕ
row_at rows place = slice_index_or rows place []

abbrev pub is_among : List ℕ → ℕ → Bool
is_among row place = list_any (λ other. other == place) row

-- the rows with their places in order, each once
abbrev pub arranged : List (List ℕ) → List (List ℕ)
arranged rows = map (λ place. filter (is_among (row_at rows place)) (places rows)) (places rows)

-- the rows the other way round: at each place those whose row has it, in order, each once
abbrev pub turned : List (List ℕ) → List (List ℕ)
turned rows = map (λ place. filter (λ other. is_among (row_at rows other) place) (places rows)) (places rows)

-- the rows name places of the graph alone
abbrev pub IsWithin : List (List ℕ) → Type 0
IsWithin rows = All (All (λ place. place < length rows)) rows

-- the place is the row's last
abbrev pub ends_with : List ℕ → ℕ → Bool
ends_with row place = option_map_or (λ last. last == place) (slice_get row (length row - 1)) false

-- the row with a place added at its end, unless it ends with it
abbrev pub with_last : List ℕ → ℕ → List ℕ
with_last row place = if ends_with row place then row else row ++ place ∷ []

-- the row with a place added at its end, where the test says so
abbrev pub with_each : Bool → List ℕ → ℕ → List ℕ
with_each added row place = if added then row ++ place ∷ [] else row
