use Rattle.af_plane.proofs.SharedLemmas.{versions_follow}
use Rattle.af_plane.proofs.laws.versions_of_all_follow.Goals as goal

pub returns : goal.returns
returns c = versions_follow c.versions_follow.ensures
