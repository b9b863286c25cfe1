use Rattle.af_plane.proofs.AskedLemmas.{readings_are_steps}
use Rattle.af_plane.proofs.laws.readings_are_steps.Goals as goal

pub returns : goal.returns
returns c = readings_are_steps
