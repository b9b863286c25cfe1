-- The order in which the tasks of a DAG are taken (this product's own rule): of the tasks whose upstream tasks have
-- all been taken, the earliest in the definition. A graph is given by its rows: at each place the places upstream.
use Rattle.std.specs.Prelude.{ℕ, ◌<◌, ◌≤◌, Bool, not, ◌&&◌, List, [], ◌++◌, length, slice_index, take, zero, suc, Contains, All}
use Rattle.std.specs.List.{find, list_all}
use Rattle.std.specs.Option.{option_to_list}
use Rattle.af_graph.specs.Rows.{places, row_at, is_among}

-- a place may be taken: it has not been, and each place upstream of it has
abbrev pub is_free : List (List ℕ) → List ℕ → ℕ → Bool
is_free rows taken place = not (is_among taken place) && list_all (is_among taken) (row_at rows place)

-- one more place is taken: the earliest that may be, if there is one
abbrev pub one_more : List (List ℕ) → List ℕ → List ℕ
one_more rows taken = taken ++ option_to_list (find (is_free rows taken) (places rows))

-- what is taken in so many turns
unfoldable pub taken_in : ℕ → List (List ℕ) → List ℕ
taken_in zero rows = []
taken_in (suc turns) rows = one_more rows (taken_in turns rows)

-- what is taken in as many turns as there are places
abbrev pub order_of : List (List ℕ) → List ℕ
order_of rows = taken_in (length rows) rows

-- the same as a relation on lists, in the words of the rule

-- the place may be taken once these have been: it is none of them, and each place upstream of it is one
pub record IsFree (rows : List (List ℕ)) (taken : List ℕ) (place : ℕ) : Type 0 where
  pub here : place < length rows
  pub fresh : ¬ Contains taken place
  pub after : All (Contains taken) (row_at rows place)

-- of the places that may be taken it is the earliest
pub record IsNext (rows : List (List ℕ)) (taken : List ℕ) (place : ℕ) : Type 0 where
  pub free : IsFree rows taken place
  pub earliest : (other : ℕ) → IsFree rows taken other → place ≤ other

-- each place of the list is the next one after those before it, and after the last there is none
pub record IsOrder (rows : List (List ℕ)) (order : List ℕ) : Type 0 where
  pub step : (turn : ℕ) → turn < length order → IsNext rows (take turn order) (slice_index order turn)
  pub ends : (place : ℕ) → ¬ IsFree rows order place
