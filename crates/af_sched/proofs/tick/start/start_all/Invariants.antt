use Rattle.std.proofs.Common.{◌≡◌, map, take}
use Rattle.af_sched.specs.Rooms.{room_left}
use Rattle.af_sched.proofs.StartLemmas.{done_so_far}
use Rattle.af_sched.proofs.tick.start.start_all.Given as goal

abbrev pub invariant-loop-run : goal.invariant-loop-run
invariant-loop-run l = record {
  done : done_so_far l.at l.dags l.initial.runs l.runs l.run-index;
  left : l.left ≡ map (room_left l.initial.runs (take l.run-index l.initial.runs)) l.dags;
}
