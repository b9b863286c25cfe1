use Rattle.af_world.proofs.BlindLemmas.{acts_blind}
use Rattle.af_world.proofs.laws.acts_are_blind.Goals as goal

pub returns : goal.returns
returns c = acts_blind
