use Rattle.af_plane.proofs.ClosingLemmas.{sessions_stay_within}
use Rattle.af_plane.proofs.laws.sessions_stay_within.Goals as goal

pub returns : goal.returns
returns c = sessions_stay_within
