use Rattle.std.proofs.Common.{◌≡◌}
use Rattle.af_graph.specs.Order.{taken_in}
use Rattle.af_graph.specs.Steps.{KeepsPace}
use Rattle.af_graph.proofs.taking.take_all.Given as goal

-- what has been taken is what is taken in as many turns
abbrev pub invariant-loop : goal.invariant-loop
invariant-loop l = KeepsPace l.upstream l.taking × (l.taking.order.items ≡ taken_in l.counter l.upstream)
