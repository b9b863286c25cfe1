use Rattle.std.proofs.Common.{ℕ, subst}
use Rattle.af_server.specs.Listenings.{server_of}
use Rattle.af_server.specs.Servers.{IsServerReport}
use Rattle.af_server.proofs.server.serve.Goals as goal

pub returns : goal.returns
returns g c =
    let ran = c.run.ensures in
    subst (λ (count : ℕ). IsServerReport g.R.Machine.behaviour count c.args.listener.now (server_of c.args.server.parts.board c.args.server.parts.plane c.args.server.scripted) c.run.result)
    c.count.ensures.value
    (record { all = ran.all; each = ran.each; scheduled = ran.scheduled; plane = ran.plane; workers_within = ran.workers_within; scheduler_within = ran.scheduler_within })
