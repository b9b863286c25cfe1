use Rattle.std.proofs.Common.{◌≡◌, ◌<◌, ℕ, false}
use Rattle.af_graph.specs.Graph.{upstream_rows}
use Rattle.af_graph.specs.Order.{is_free}
use Rattle.af_graph.proofs.plain.next_free.Given as goal

-- no place that was passed may be taken
abbrev pub invariant-loop-place : goal.invariant-loop-place
invariant-loop-place l = (k : ℕ) → k < l.place → is_free (upstream_rows l.fn.tasks) l.fn.taken k ≡ false
