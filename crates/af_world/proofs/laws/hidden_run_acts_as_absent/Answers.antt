use Rattle.af_world.proofs.BlindLemmas.{hidden_run_acts}
use Rattle.af_world.proofs.laws.hidden_run_acts_as_absent.Goals as goal

pub returns : goal.returns
returns c = hidden_run_acts
