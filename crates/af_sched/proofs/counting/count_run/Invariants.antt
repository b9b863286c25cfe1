use Rattle.std.proofs.Common.{◌≡◌, length, take}
use Rattle.af_sched.specs.Counting.{CountsMore}
use Rattle.af_sched.specs.Placed.{placed_of}
use Rattle.af_sched.proofs.counting.count_run.Given as goal

abbrev pub invariant-loop-place : goal.invariant-loop-place
invariant-loop-place l =
    CountsMore (take l.place (placed_of l.tasks l.run)) l.pools l.initial.counts l.counts × (length l.counts ≡ length l.pools)
