use Rattle.std.proofs.Crossing.{crosses}
use denote.Param.Send.{sendable}
use Rattle.af_plane.proofs.Threads.{control_sync}
use Rattle.af_server_tests.proofs.tests.loopback.running.serve.Goals as goal

-- a control and its issuer may be shared by threads
pub serve_shared-requires-sync-C : goal.serve_shared-requires-sync-C
serve_shared-requires-sync-C g c κs within = search (sendable, crosses, control_sync) depth 60 fits 100000
