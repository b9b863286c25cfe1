use Rattle.af_world.proofs.LawLemmas.{answered_versions}
use Rattle.af_world.proofs.laws.answered_versions_climb.Goals as goal

pub returns : goal.returns
returns c = answered_versions
