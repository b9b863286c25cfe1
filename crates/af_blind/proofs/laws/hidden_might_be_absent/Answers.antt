use Rattle.af_blind.proofs.HiddenLemmas.{hidden_absent}
use Rattle.af_blind.proofs.laws.hidden_might_be_absent.Goals as goal

pub returns : goal.returns
returns c = hidden_absent
