use Rattle.af_plane.proofs.ControlLemmas.{deeds_are_events}
use Rattle.af_plane.proofs.laws.deeds_are_events.Goals as goal

pub returns : goal.returns
returns c = deeds_are_events
