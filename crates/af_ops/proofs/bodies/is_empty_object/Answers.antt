use Rattle.af_ops.proofs.BodyLemmas.{empty_is}
use Rattle.af_ops.proofs.bodies.is_empty_object.Goals as goal

pub returns-in-Some : goal.returns-in-Some
returns-in-Some c = rw (← c.in-Some.ensures) (empty_is c.is_empty.result c.in-Some.members.now c.is_empty.ensures)
