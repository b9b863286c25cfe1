use Rattle.af_world.proofs.PublishLemmas.{publishes_granted}
use Rattle.af_world.proofs.laws.publishes_are_granted.Goals as goal

pub returns : goal.returns
returns c = publishes_granted
