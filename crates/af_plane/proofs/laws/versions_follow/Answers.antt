use Rattle.af_plane.proofs.EventLemmas.{versions_follow}
use Rattle.af_plane.proofs.laws.versions_follow.Goals as goal

pub returns : goal.returns
returns c = versions_follow c.versions_follow.ensures
