use Rattle.std.proofs.Common.{◌≡◌, ◌<◌, ℕ, ◌&&◌, ltb, eqb, [], length, get_or, vec_len}
use Rattle.af_graph.specs.Rows.{row_at}
use Rattle.af_graph.specs.Steps.{is_ready}
use Rattle.af_graph.proofs.taking.Taking.open.Given as goal

-- the places that have been passed wait for each place upstream
abbrev pub invariant-loop-place : goal.invariant-loop-place
invariant-loop-place l =
    (vec_len l.taking.waiting ≡ l.place)
    × (l.taking.order.items ≡ [])
    × ((k : ℕ) → k < l.place → get_or l.taking.waiting.items k 0 ≡ length (row_at l.upstream k))
    × ((k : ℕ) → is_ready l.taking k ≡ (ltb k l.place && eqb (length (row_at l.upstream k)) 0))
