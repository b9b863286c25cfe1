use Rattle.std.proofs.Common.{◌∙◌}
use Rattle.af_server.proofs.ServingLemmas.{one_more}
use Rattle.af_server.proofs.serving.Serving.serve_each.Goals as goal

pub loop-count-preserved : goal.loop-count-preserved
loop-count-preserved g c =
    let inv = c.loop-count.invariant in
    let more = one_more g.S.Service.answers c.args.listener.now c.loop-count.count (g.R.Log.MachineLog.connections c.loop-count.log) (g.R.Log.MachineLog.connections c.handle_next.new.log)
    c.args.self.now c.loop-count.self c.handle_next.new.handler c.in-Ok.ensures.handled inv.0 inv.1 inv.2 in
    (more.0, more.1, more.2, c.handle_next.ensures.waits ∙ inv.3)
