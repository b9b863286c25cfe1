use Rattle.af_server.proofs.verdict.print.Goals as goal

pub returns : goal.returns
returns g c = rw c.printed.ensures at c.tell.ensures
