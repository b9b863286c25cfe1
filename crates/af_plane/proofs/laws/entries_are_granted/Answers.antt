use Rattle.af_plane.proofs.EventLemmas.{entries_granted}
use Rattle.af_plane.proofs.laws.entries_are_granted.Goals as goal

pub returns : goal.returns
returns c = entries_granted c.entries_are_granted.ensures
