use Rattle.std.proofs.Common.{rules}
use Rattle.std.proofs.Crossing.{crosses}
use denote.Param.Send.{sendable}
use Rattle.af_plane.proofs.Threads.{control_sync}
use Rattle.af_server.proofs.server.Server.run.Goals as goal

-- a control and its issuer may be shared by threads
pub run_threads-scheduler-requires-sync-C : goal.run_threads-scheduler-requires-sync-C
run_threads-scheduler-requires-sync-C g c κs within = search (sendable, crosses, control_sync) depth 60 fits 100000

pub at_end-requires : goal.at_end-requires
at_end-requires g c =
    (search rules, (search rules, ((λ k d below. (c.run_threads-scheduler.ensures.each k d below).0.of), c.run_threads-scheduler.ensures.scheduled.2.of)))

pub returns-clause-each : goal.returns-clause-each
returns-clause-each g c =
    rw c.at_end.ensures.workers (λ k d below. let each = c.run_threads-scheduler.ensures.each k d below in record { served = each.0; came = each.1; ended = each.2 })
