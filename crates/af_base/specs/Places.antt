-- Where the row of a key stands, and where it would.
use Rattle.std.specs.Prelude.{ℕ, ◌≡◌, ◌≢◌, ◌<◌, ◌≤◌, None, List, true, false, length, slice_index_or}
use Rattle.std.specs.List.Sorted.{IsPartitionPoint}
use Rattle.std.specs.Ordering.{nat_cmp}
use Rattle.std.specs.declared.cmp.Ordering.TheVariants.{Less, Greater}
use Rattle.std.specs.Cmp.Lexicographic.{slice_cmp}
use Rattle.af_base.specs.Ordered.{has_key, is_there, row_of}

-- the row at this place has this key, and no other row has
pub record StandsAt {X : Type 0} (key_of : X → List ℕ) (rows : List X) (key : List ℕ) (place : ℕ) : Type 0 where
  pub within : place < length rows
  pub there : is_there key_of rows key ≡ true
  pub here : (d : X) → has_key key_of key (slice_index_or rows place d) ≡ true
  pub alone : (other : ℕ) (d : X) → other < length rows → other ≢ place → has_key key_of key (slice_index_or rows other d) ≡ false

-- no row has this key; those of lower keys stand before the place, and those of higher ones from it on
pub record FitsAt {X : Type 0} (key_of : X → List ℕ) (rows : List X) (key : List ℕ) (place : ℕ) : Type 0 where
  pub within : place ≤ length rows
  pub absent : is_there key_of rows key ≡ false
  pub none : row_of key_of rows key ≡ None
  pub parted : IsPartitionPoint (λ row. slice_cmp nat_cmp (key_of row) key ≡ Less) (λ row. slice_cmp nat_cmp (key_of row) key ≡ Greater) rows place
