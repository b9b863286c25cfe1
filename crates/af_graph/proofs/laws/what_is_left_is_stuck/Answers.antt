use Rattle.af_graph.proofs.OrderLemmas.{left_is_stuck}
use Rattle.af_graph.proofs.laws.what_is_left_is_stuck.Goals as goal

pub returns : goal.returns
returns c = left_is_stuck
