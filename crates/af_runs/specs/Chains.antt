-- Rows that each have a number and a code, chained by code: from the last row of a code to the row of that code before it,
-- and so on to the first (this product's own rule).
use Rattle.std.specs.Prelude.{ℕ, ◌≡◌, ◌+◌, ◌≤◌, ◌==◌, List, [], ◌∷◌, if◌then◌else◌, nat_eq, unwrap_or, vec_len, vec_capacity}
use Rattle.std.specs.HashMap.{get, spare}
use Rattle.af_runs.specs.declared.chains.Chains.{Chains}

-- no row has any code
abbrev pub no_row : ℕ → ℕ
no_row code = 0

-- the number of the last row of each code, 0 where there is none: what it is after one more row
abbrev pub put : (ℕ → ℕ) → ℕ × ℕ → ℕ → ℕ
put last row code = if row.1 == code then row.0 else last code

-- what it is after more rows
abbrev pub last_after : (ℕ → ℕ) → List (ℕ × ℕ) → ℕ → ℕ
last_after last [] = last
last_after last (row ∷ rows) = last_after (put last row) rows

-- at each of these rows, the number of the last row of its code before it
abbrev pub earlier_after : (ℕ → ℕ) → List (ℕ × ℕ) → List ℕ
earlier_after last [] = []
earlier_after last (row ∷ rows) = last row.1 ∷ earlier_after (put last row) rows

-- the number of the last row of a code, by the chains
abbrev pub last_of : Chains → ℕ → ℕ
last_of chains code = unwrap_or (get nat_eq chains.last code) 0

-- the chains are those of these rows
pub record AreChains (rows : List (ℕ × ℕ)) (chains : Chains) : Type 0 where
  pub last : (code : ℕ) → last_of chains code ≡ last_after no_row rows code
  pub earlier : chains.earlier.items ≡ earlier_after no_row rows

-- so many more rows can be chained without memory
pub record HasRoom (rows : ℕ) (chains : Chains) : Type 0 where
  pub last : rows ≤ spare chains.last
  pub earlier : vec_len chains.earlier + rows ≤ vec_capacity chains.earlier

-- a number, or in the place of one that is taken out what stands before that
abbrev pub out : ℕ → ℕ → ℕ → ℕ
out number before other = if other == number then before else other
