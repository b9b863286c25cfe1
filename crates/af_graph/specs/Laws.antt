-- Laws on the order of a graph's places, in the words of the rule.
use Rattle.std.specs.Prelude.{ℕ, ◌≡◌, ◌<◌, List, length, Any, Contains}
use Rattle.af_graph.specs.Rows.{row_at}
use Rattle.af_graph.specs.Order.{order_of, IsOrder}

-- the order of a graph is one by the rule, and no other list is
abbrev pub OneOrder : Type 0
OneOrder =
    (rows : List (List ℕ)) → IsOrder rows (order_of rows) × ((order : List ℕ) → IsOrder rows order → order ≡ order_of rows)

-- a place that the order never takes has a place upstream that it never takes either
abbrev pub LeftIsStuck : Type 0
LeftIsStuck =
    (rows : List (List ℕ)) (place : ℕ) → place < length rows → ¬ Contains (order_of rows) place → Any (λ other. ¬ Contains (order_of rows) other) (row_at rows place)
