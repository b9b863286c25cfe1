use Rattle.af_plane.proofs.ControlLemmas.{operations_are_events}
use Rattle.af_plane.proofs.laws.operations_are_events.Goals as goal

pub returns : goal.returns
returns c = operations_are_events
