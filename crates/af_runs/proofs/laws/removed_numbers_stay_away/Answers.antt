use Rattle.af_runs.proofs.MarkLemmas.{stay_away}
use Rattle.af_runs.proofs.laws.removed_numbers_stay_away.Goals as goal

pub returns : goal.returns
returns c = stay_away
