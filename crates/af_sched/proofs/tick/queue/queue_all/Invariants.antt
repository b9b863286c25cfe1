use Rattle.std.proofs.Common.{◌≡◌, take, map}
use Rattle.af_sched.proofs.SeatLemmas.{seated}
use Rattle.af_sched.proofs.tick.queue.queue_all.Given as goal

abbrev pub invariant-loop-seat : goal.invariant-loop-seat
invariant-loop-seat l = l.runs ≡ map (seated (take l.seat-index l.seat-items)) l.initial.runs
