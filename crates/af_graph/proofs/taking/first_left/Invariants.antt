use Rattle.std.proofs.Common.{◌≡◌, ℕ, get_or, vec_len, take, false}
use Rattle.af_graph.specs.Rows.{is_among}
use Rattle.af_graph.proofs.taking.first_left.Given as goal

-- the places that have been passed are marked
abbrev pub invariant-loop-place : goal.invariant-loop-place
invariant-loop-place l =
    (vec_len l.taken ≡ l.count) × ((k : ℕ) → get_or l.taken.items k false ≡ is_among (take l.place-index l.order) k)
