use Rattle.std.proofs.Common.{◌≡◌, map, take}
use Rattle.af_sched.specs.Rooms.{room_of}
use Rattle.af_sched.proofs.tick.start.take_running.Given as goal

abbrev pub invariant-loop-run : goal.invariant-loop-run
invariant-loop-run l = l.left ≡ map (room_of (take l.run-index l.runs)) l.dags
