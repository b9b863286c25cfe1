use Rattle.af_ops.proofs.RunLemmas.{listed_read}
use Rattle.af_ops.proofs.laws.runs_listed_are_those_read.Goals as goal

pub returns : goal.returns
returns c = listed_read
