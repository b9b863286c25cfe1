use Rattle.af_server.proofs.verdict.refuse.Goals as goal

pub returns : goal.returns
returns g c = rw c.refused.ensures at c.tell.ensures
