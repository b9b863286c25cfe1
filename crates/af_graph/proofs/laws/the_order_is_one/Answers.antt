use Rattle.af_graph.specs.Order.{order_of}
use Rattle.af_graph.proofs.OrderLemmas.{order_is, order_is_one}
use Rattle.af_graph.proofs.laws.the_order_is_one.Goals as goal

pub returns : goal.returns
returns c = λ rows. (order_is rows, λ order of_order. order_is_one rows order (order_of rows) of_order (order_is rows))
