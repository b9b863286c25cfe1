use Rattle.std.proofs.Common.{◌≡◌, map, take}
use Rattle.af_sched.specs.Rooms.{most_of}
use Rattle.af_sched.proofs.tick.start.most_of_each.Given as goal

abbrev pub invariant-loop-row : goal.invariant-loop-row
invariant-loop-row l = l.most.items ≡ map most_of (take l.row-index l.rows)
