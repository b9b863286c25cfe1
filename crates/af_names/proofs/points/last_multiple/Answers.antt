use Rattle.af_names.proofs.PointLemmas.{greatest_multiple}
use Rattle.af_names.proofs.points.last_multiple.Goals as goal

pub returns : goal.returns
returns c = greatest_multiple c.args.step c.args.to c.requires
