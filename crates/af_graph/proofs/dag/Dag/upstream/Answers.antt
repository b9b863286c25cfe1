use Rattle.af_graph.proofs.RowLemmas.{length-upstream_rows}
use Rattle.af_graph.proofs.dag.Dag.upstream.Goals as goal

pub row-requires : goal.row-requires
row-requires c = rw (c.self.invariant.0.upstream, length-upstream_rows, c.self.view_is) c.requires
