use Rattle.af_world.proofs.LawLemmas.{versions_followed}
use Rattle.af_world.proofs.laws.versions_follow.Goals as goal

pub returns : goal.returns
returns c = versions_followed
