use Rattle.af_server.proofs.shared.ControlSharedSessionPermit.serve.Goals as goal

pub returns-clause-serves : goal.returns-clause-serves
returns-clause-serves g c =
    rw c.of.ensures (record {
      opening = c.open.result;
      opened = c.open.ensures;
      answers = rw c.end.ensures.session (rw c.into_service.ensures (rw c.by-serving.ensures at c.serve_each-count.ensures.serves));
      of = rw c.end.ensures.session c.end.ensures.of;
    })
