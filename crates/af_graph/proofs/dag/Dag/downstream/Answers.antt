use Rattle.af_graph.proofs.RowLemmas.{length-downstream_rows}
use Rattle.af_graph.proofs.dag.Dag.downstream.Goals as goal

pub row-requires : goal.row-requires
row-requires c = rw (c.self.invariant.0.downstream, length-downstream_rows, c.self.view_is) c.requires
