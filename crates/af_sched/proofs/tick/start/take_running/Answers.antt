use Rattle.std.proofs.Common.{◌∙◌, take}
use Rattle.af_sched.specs.Rooms.{room_of}
use Rattle.af_sched.proofs.RoomLemmas.{running_none, running_seen}
use Rattle.af_sched.proofs.tick.start.take_running.Goals as goal

pub loop-run-init : goal.loop-run-init
loop-run-init c = c.requires ∙ running_none c.args.dags.now

pub loop-run-preserved : goal.loop-run-preserved
loop-run-preserved c =
    c.take_if_running.ensures (room_of (take c.loop-run.run-index c.args.runs.now)) c.loop-run.invariant
    ∙ running_seen c.args.dags.now c.args.runs.now c.loop-run.run-index c.run-item.result c.loop-run-test.true c.run-item.is
