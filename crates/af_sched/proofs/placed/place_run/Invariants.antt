use Rattle.std.proofs.Common.{◌≡◌, ◌++◌, take}
use Rattle.af_sched.specs.Placed.{placed_of}
use Rattle.af_sched.proofs.placed.place_run.Given as goal

abbrev pub invariant-loop-place : goal.invariant-loop-place
invariant-loop-place l = l.all.items ≡ l.initial.all.items ++ take l.place (placed_of l.tasks l.run)
