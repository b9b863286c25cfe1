use Rattle.af_blind.proofs.HiddenLemmas.{hidden_runs_answered}
use Rattle.af_blind.proofs.laws.hidden_runs_are_answered_as_absent.Goals as goal

pub returns : goal.returns
returns c = hidden_runs_answered
