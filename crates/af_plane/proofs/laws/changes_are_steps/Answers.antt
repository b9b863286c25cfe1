use Rattle.af_plane.proofs.AskedLemmas.{changes_are_steps}
use Rattle.af_plane.proofs.laws.changes_are_steps.Goals as goal

pub returns : goal.returns
returns c = changes_are_steps
