use Rattle.af_policy.proofs.StandLemmas.{nothing-doubled}
use Rattle.af_policy.proofs.laws.nothing_is_doubled.Goals as goal

pub returns : goal.returns
returns c = nothing-doubled
