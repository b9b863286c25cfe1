use Rattle.std.proofs.Common.{◌≡◌, ◌<◌, ℕ, length}
use Rattle.std.specs.List.{filter, range_with_len}
use Rattle.af_graph.specs.Rows.{row_at, is_among}
use Rattle.af_graph.proofs.links.Links.turned.Given as goal

-- the rows have the places that have been passed
abbrev pub invariant-loop-place : goal.invariant-loop-place
invariant-loop-place l =
    (length l.links ≡ length l.self)
    × ((row : ℕ) → row < length l.self → row_at l.links row ≡ filter (λ other. is_among (row_at l.self other) row) (range_with_len 0 l.place))
