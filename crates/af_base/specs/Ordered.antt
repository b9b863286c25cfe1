-- Rows that have a key each, a text; in byte order of their keys, and no two of one key. This product's own rule.
use Rattle.std.specs.Prelude.{ℕ, List, ◌∷◌, ◌++◌, Bool, not, map, filter, find, Option, nat_eq, if◌then◌else◌}
use Rattle.std.specs.Coded.{Coded, code_by, coded×, coded_list, coded_ℕ}
use Rattle.std.specs.List.{list_any}
use Rattle.std.specs.List.Sorted.{IsStrictlySortedBy}
use Rattle.std.specs.Ordering.{nat_cmp, is_lt}
use Rattle.std.specs.Cmp.Lexicographic.{slice_cmp, pointwise}
use Rattle.std.proofs.Common.{refl}

-- the rows, by key in byte order, and for how many more memory is reserved
pub record Kept (X : Type 0) : Type 0 where
  pub rows : List X
  pub spare : ℕ

abbrev pub kept_coded : {X : Type 0} → Coded X → Coded (Kept X)
kept_coded {X} c =
    code_by (List X × ℕ) (coded× (coded_list c) coded_ℕ) (λ k. (k.rows, k.spare)) (λ p. record { rows = p.0; spare = p.1 }) (λ _. refl)

-- whether one text stands before another in byte order
abbrev pub comes_before : List ℕ → List ℕ → Bool
comes_before text other = is_lt (slice_cmp nat_cmp text other)

-- whether this is the row's key
abbrev pub has_key : {X : Type 0} → (X → List ℕ) → List ℕ → X → Bool
has_key key_of key row = pointwise nat_eq (key_of row) key

-- whether a row has this key
abbrev pub is_there : {X : Type 0} → (X → List ℕ) → List X → List ℕ → Bool
is_there key_of rows key = list_any (has_key key_of key) rows

-- the row of this key
abbrev pub row_of : {X : Type 0} → (X → List ℕ) → List X → List ℕ → Option X
row_of key_of rows key = find (has_key key_of key) rows

-- the rows with one more, in its place by key
abbrev pub with_row : {X : Type 0} → (X → List ℕ) → List X → X → List X
with_row key_of rows row =
    filter (λ other. comes_before (key_of other) (key_of row)) rows
    ++ row ∷ filter (λ other. comes_before (key_of row) (key_of other)) rows

-- the rows, that of this key changed
abbrev pub with_change : {X : Type 0} → (X → List ℕ) → (X → X) → List X → List ℕ → List X
with_change key_of changed rows key = map (λ row. if has_key key_of key row then changed row else row) rows

-- the rows without that of this key
abbrev pub without_row : {X : Type 0} → (X → List ℕ) → List X → List ℕ → List X
without_row key_of rows key = filter (λ row. not (has_key key_of key row)) rows

-- the rows are in byte order of their keys, and no two have one key
abbrev pub AreInOrder : {X : Type 0} → (X → List ℕ) → List X → Type 0
AreInOrder key_of rows = IsStrictlySortedBy (slice_cmp nat_cmp) (map key_of rows)
