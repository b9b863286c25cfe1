use Rattle.std.proofs.Common.{◌≡◌, ◌≤◌, take}
use Rattle.af_graph.specs.Graph.{upstream_rows}
use Rattle.af_graph.specs.Order.{taken_in}
use Rattle.af_graph.proofs.plain.first_never_taken.Given as goal

-- what stands in front was taken in so many turns
abbrev pub invariant-loop : goal.invariant-loop
invariant-loop l = (l.count ≤ l.counter) × (take l.count l.taken ≡ taken_in l.counter (upstream_rows l.fn.tasks))
