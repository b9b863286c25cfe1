use Rattle.af_blind.proofs.HiddenLemmas.{hidden_answered}
use Rattle.af_blind.proofs.laws.hidden_is_answered_as_absent.Goals as goal

pub returns : goal.returns
returns c = hidden_answered
