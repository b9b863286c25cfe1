use Rattle.af_plane.specs.Looks.{On}
use Rattle.af_plane.proofs.plane.Plane.take_turn.Goals as goal

pub returns-in-Ok-clause-acted : goal.returns-in-Ok-clause-acted
returns-in-Ok-clause-acted c = (On c.act.new.session.grounds, c.in-Ok.ensures.acted)
