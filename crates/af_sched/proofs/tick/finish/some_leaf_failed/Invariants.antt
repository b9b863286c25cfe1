use Rattle.std.proofs.Common.{◌≡◌, ◌<◌, ℕ, false, ◌&&◌}
use Rattle.af_sched.specs.Finish.{is_leaf, has_failed}
use Rattle.af_sched.specs.Settle.{state_at}
use Rattle.af_sched.proofs.tick.finish.some_leaf_failed.Given as goal

abbrev pub invariant-loop-place : goal.invariant-loop-place
invariant-loop-place l = (j : ℕ) → j < l.place → (is_leaf l.dag.tasks j && has_failed (state_at l.instances j)) ≡ false
