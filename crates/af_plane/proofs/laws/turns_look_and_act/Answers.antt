use Rattle.af_plane.proofs.TurnLemmas.{turns_look_and_act}
use Rattle.af_plane.proofs.laws.turns_look_and_act.Goals as goal

pub returns : goal.returns
returns c = turns_look_and_act
