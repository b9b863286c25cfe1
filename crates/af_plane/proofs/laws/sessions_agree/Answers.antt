use Rattle.af_plane.proofs.ClosingLemmas.{sessions_agree}
use Rattle.af_plane.proofs.laws.sessions_agree.Goals as goal

pub returns : goal.returns
returns c = sessions_agree
