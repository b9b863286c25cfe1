use Rattle.af_world.proofs.LawLemmas.{sights_grow}
use Rattle.af_world.proofs.laws.sights_never_fall.Goals as goal

pub returns : goal.returns
returns c = sights_grow
