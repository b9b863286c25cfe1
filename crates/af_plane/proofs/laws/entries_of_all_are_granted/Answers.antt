use Rattle.af_plane.proofs.SharedLemmas.{entries_granted}
use Rattle.af_plane.proofs.laws.entries_of_all_are_granted.Goals as goal

pub returns : goal.returns
returns c = entries_granted c.entries_are_granted.ensures
