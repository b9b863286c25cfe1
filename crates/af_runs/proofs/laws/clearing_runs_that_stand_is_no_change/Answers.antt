use Rattle.af_runs.proofs.ClearLemmas.{clears_stand}
use Rattle.af_runs.proofs.laws.clearing_runs_that_stand_is_no_change.Goals as goal

pub returns : goal.returns
returns c = clears_stand
