use Rattle.af_plane.proofs.SharedLemmas.{versions_climb}
use Rattle.af_plane.proofs.laws.versions_told_to_each_climb.Goals as goal

pub returns : goal.returns
returns c = versions_climb c.answered_versions_climb.ensures
