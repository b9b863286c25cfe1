use Rattle.af_runs.proofs.ClearLemmas.{cleared_stands}
use Rattle.af_runs.proofs.laws.clearing_what_stands_is_no_change.Goals as goal

pub returns : goal.returns
returns c = cleared_stands
