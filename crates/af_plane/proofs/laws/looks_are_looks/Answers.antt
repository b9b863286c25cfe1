use Rattle.af_plane.proofs.TurnLemmas.{looks_are_looks}
use Rattle.af_plane.proofs.laws.looks_are_looks.Goals as goal

pub returns : goal.returns
returns c = looks_are_looks
