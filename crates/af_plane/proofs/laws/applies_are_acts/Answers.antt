use Rattle.af_plane.proofs.TurnLemmas.{applies_are_acts}
use Rattle.af_plane.proofs.laws.applies_are_acts.Goals as goal

pub returns : goal.returns
returns c = applies_are_acts
