-- A board of policy versions, and the marks that name its versions. This product's own rule.
--
-- The version word keeps one list of places, an entry for each version from 0 on. Place 0 is the opening policy; place n + 1 is index n of
-- the table. A mark is a version's number with the table's token of its place, which says what the policy there is.
use Rattle.std.specs.Prelude.{◌≡◌, ℕ, ◌+◌, Option, Some, None, slice_get}
use Rattle.boxcar.specs.Table.{Shelves, Where, Shows}
use Rattle.af_policy.specs.Rows.{PolicyRows}
use Rattle.af_word.specs.Places.{EndsAt, Sight, WordId}

-- a board: which version word, which table, and the policy of version 0
pub record Site : Type 0 where
  pub word : WordId
  pub table : Shelves
  pub opening : PolicyRows

-- a mark: the version's number, and the token of its place, which the opening policy has not
pub record Marked : Type 0 where
  pub version : ℕ
  pub token : Option (Where PolicyRows)

-- the place of a token: 0 without one, else one more than its index
abbrev pub place_at : Option (Where PolicyRows) → ℕ
place_at None = 0
place_at (Some t) = t.index + 1

-- the place that a mark names
abbrev pub place_of : Marked → ℕ
place_of m = place_at m.token

-- a token is of this table; that there is none is said of any table
abbrev pub IsIn : Shelves → Option (Where PolicyRows) → Type 0
IsIn table None = Unit {0}
IsIn table (Some t) = Shows table t

-- a mark is of this board
abbrev pub IsOf : Site → Marked → Type 0
IsOf site m = IsIn site.table m.token

-- the policy of a token: the opening policy without one
abbrev pub policy_at : PolicyRows → Option (Where PolicyRows) → PolicyRows
policy_at opening None = opening
policy_at opening (Some t) = t.value

-- the policy that a mark names
abbrev pub policy_of : Site → Marked → PolicyRows
policy_of site m = policy_at site.opening m.token

-- a mark is of this board, and names the last version that a pass has seen
abbrev pub IsLast : Site → Sight → Marked → Type 0
IsLast site pass m = IsOf site m × EndsAt pass.places m.version (place_of m)

-- a pass has seen the mark's version, at the mark's place
abbrev pub HasSeen : Sight → Marked → Type 0
HasSeen pass m = slice_get pass.places m.version ≡ Some (place_of m)
