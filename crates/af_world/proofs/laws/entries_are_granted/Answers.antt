use Rattle.af_world.proofs.LawLemmas.{entries_granted}
use Rattle.af_world.proofs.laws.entries_are_granted.Goals as goal

pub returns : goal.returns
returns c = entries_granted
