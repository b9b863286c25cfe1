use Rattle.af_plane.proofs.ControlLemmas.{calls_are_events}
use Rattle.af_plane.proofs.laws.calls_are_events.Goals as goal

pub returns : goal.returns
returns c = calls_are_events
