use Rattle.af_names.proofs.PointLemmas.{greatest_multiple}
use Rattle.af_graph.proofs.multiples.last_multiple.Goals as goal

pub returns-then-step-gt0 : goal.returns-then-step-gt0
returns-then-step-gt0 c = greatest_multiple c.args.step c.args.to c.if-step-gt0.true
