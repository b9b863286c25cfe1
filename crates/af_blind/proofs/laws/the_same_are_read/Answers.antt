use Rattle.af_blind.proofs.HiddenLemmas.{same_read}
use Rattle.af_blind.proofs.laws.the_same_are_read.Goals as goal

pub returns : goal.returns
returns c = same_read
