use Rattle.af_ops.proofs.RunLemmas.{numbers_rise}
use Rattle.af_ops.proofs.laws.run_numbers_rise.Goals as goal

pub returns : goal.returns
returns c = numbers_rise
