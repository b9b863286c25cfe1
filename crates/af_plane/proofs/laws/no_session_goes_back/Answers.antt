use Rattle.af_plane.proofs.StayLemmas.{goes_on}
use Rattle.af_plane.proofs.laws.no_session_goes_back.Goals as goal

pub returns : goal.returns
returns c = goes_on
