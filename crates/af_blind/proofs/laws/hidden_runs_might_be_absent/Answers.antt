use Rattle.af_blind.proofs.HiddenLemmas.{hidden_runs_absent}
use Rattle.af_blind.proofs.laws.hidden_runs_might_be_absent.Goals as goal

pub returns : goal.returns
returns c = hidden_runs_absent
