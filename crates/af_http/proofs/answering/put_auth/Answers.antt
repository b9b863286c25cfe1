use Rattle.af_http.proofs.answering.put_auth.Goals as goal

pub returns-in-Unauthorized : goal.returns-in-Unauthorized
returns-in-Unauthorized g c = rw (c.in-Unauthorized.is) c.put.ensures.all
