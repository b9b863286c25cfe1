use Rattle.af_runs.proofs.MarkLemmas.{none_cleared}
use Rattle.af_runs.proofs.laws.clearing_nothing_is_no_change.Goals as goal

pub returns : goal.returns
returns c = none_cleared
