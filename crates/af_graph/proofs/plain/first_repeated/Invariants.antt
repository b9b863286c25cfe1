use Rattle.std.proofs.Common.{◌≡◌, ◌<◌, ℕ, false}
use Rattle.af_graph.specs.Definition.{is_repeated}
use Rattle.af_graph.proofs.plain.first_repeated.Given as goal

-- no place that was passed has an id of before
abbrev pub invariant-loop-place : goal.invariant-loop-place
invariant-loop-place l = (k : ℕ) → k < l.place → is_repeated l.fn.tasks k ≡ false
