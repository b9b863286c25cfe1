use Rattle.std.proofs.Common.{refl}
use Rattle.af_graph.specs.Graph.{upstream_rows}
use Rattle.af_graph.specs.Order.{taken_in}
use Rattle.af_server.proofs.worked.dags_by_the_rule.Goals as goal

pub returns-clause-order : goal.returns-clause-order
unfolding taken_in upstream_rows
returns-clause-order c = refl

pub returns-clause-twice : goal.returns-clause-twice
unfolding taken_in upstream_rows
returns-clause-twice c = refl

pub returns-clause-cycle : goal.returns-clause-cycle
unfolding taken_in upstream_rows
returns-clause-cycle c = refl
