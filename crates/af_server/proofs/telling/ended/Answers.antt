use Rattle.af_server.proofs.telling.ended.Goals as goal

pub returns-clause-told : goal.returns-clause-told
returns-clause-told g c = rw c.said.ensures at c.tell.ensures
