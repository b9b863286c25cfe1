use Rattle.std.proofs.Common.{◌≡◌, ◌<◌, ℕ, length, take}
use Rattle.af_graph.specs.Rows.{row_at, is_among, with_each}
use Rattle.af_graph.proofs.links.Links.add_to_each.Given as goal

-- the rows that have been passed have the place
abbrev pub invariant-loop-row : goal.invariant-loop-row
invariant-loop-row l =
    (length l.self ≡ length l.initial.self)
    × ((row : ℕ) → row < length l.initial.self → row_at l.self row ≡ with_each (is_among (take l.row-index l.rows) row) (row_at l.initial.self row) l.place)
