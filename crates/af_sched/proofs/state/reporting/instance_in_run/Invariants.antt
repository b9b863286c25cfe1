use Rattle.std.proofs.Common.{◌≡◌, ◌<◌, ℕ, get_or, false}
use Rattle.af_sched.specs.Placed.{Placed, placed_of}
use Rattle.af_sched.specs.Reports.{is_claimed}
use Rattle.af_sched.proofs.state.reporting.instance_in_run.Given as goal

abbrev pub invariant-loop-place : goal.invariant-loop-place
invariant-loop-place l = (j : ℕ) (d : Placed) → j < l.place → is_claimed l.claim (get_or (placed_of l.tasks l.run) j d) ≡ false
