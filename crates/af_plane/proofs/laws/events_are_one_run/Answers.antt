use Rattle.af_plane.proofs.EventLemmas.{events_are_one_run}
use Rattle.af_plane.proofs.laws.events_are_one_run.Goals as goal

pub returns : goal.returns
returns c = events_are_one_run
