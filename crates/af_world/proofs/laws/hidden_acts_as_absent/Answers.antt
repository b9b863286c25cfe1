use Rattle.af_world.proofs.BlindLemmas.{hidden_acts}
use Rattle.af_world.proofs.laws.hidden_acts_as_absent.Goals as goal

pub returns : goal.returns
returns c = hidden_acts
