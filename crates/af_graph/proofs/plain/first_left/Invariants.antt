use Rattle.std.proofs.Common.{◌≡◌, ◌<◌, ℕ, false, not}
use Rattle.af_graph.specs.Rows.{is_among}
use Rattle.af_graph.proofs.plain.first_left.Given as goal

-- each place that was passed is taken
abbrev pub invariant-loop-place : goal.invariant-loop-place
invariant-loop-place l = (k : ℕ) → k < l.place → not (is_among l.fn.taken k) ≡ false
