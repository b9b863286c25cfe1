use Rattle.af_world.proofs.LawLemmas.{answered_as_seen}
use Rattle.af_world.proofs.laws.answers_are_as_seen.Goals as goal

pub returns : goal.returns
returns c = answered_as_seen
