use Rattle.std.proofs.Common.{◌≡◌, take}
use Rattle.af_sched.specs.Placed.{placed_in}
use Rattle.af_sched.proofs.placed.placed_in.Given as goal

abbrev pub invariant-loop-run : goal.invariant-loop-run
invariant-loop-run l = l.all.items ≡ placed_in l.dags (take l.run-index l.runs)
