use Rattle.af_world.proofs.LawLemmas.{entry_versions}
use Rattle.af_world.proofs.laws.entry_versions_climb.Goals as goal

pub returns : goal.returns
returns c = entry_versions
