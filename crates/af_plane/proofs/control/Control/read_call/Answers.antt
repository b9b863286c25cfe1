use Rattle.af_plane.proofs.LookLemmas.{call_after_look}
use Rattle.af_plane.proofs.control.Control.read_call.Goals as goal

pub returns-in-None-clause-call : goal.returns-in-None-clause-call
returns-in-None-clause-call g c =
    call_after_look g.N.Named.name c.args.request.now c.args.session.now.visit c.read-read.new.session.visit c.alone.result c.alone.new.session.visit c.requires c.in-None.ensures.none.0 c.alone.ensures.call
