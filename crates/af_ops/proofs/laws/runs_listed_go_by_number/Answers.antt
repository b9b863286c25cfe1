use Rattle.af_ops.proofs.ShownLemmas.{by_number}
use Rattle.af_ops.proofs.laws.runs_listed_go_by_number.Goals as goal

pub returns : goal.returns
returns c = by_number
