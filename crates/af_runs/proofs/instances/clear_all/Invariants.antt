use Rattle.std.proofs.Common.{◌≡◌, ◌<◌, ◌≤◌, ℕ, get_or, length}
use Rattle.af_runs.specs.Clears.{after_clear}
use Rattle.af_runs.specs.declared.instance.Instance.{Instance}
use Rattle.af_runs.proofs.instances.clear_all.Given as goal

abbrev pub invariant-loop-place : goal.invariant-loop-place
invariant-loop-place l =
    (length l.instances ≡ length l.initial.instances)
    × ((k : ℕ) (d : Instance) → k < l.place → get_or l.instances k d ≡ after_clear l.selection (k, get_or l.initial.instances k d))
    × ((k : ℕ) (d : Instance) → l.place ≤ k → get_or l.instances k d ≡ get_or l.initial.instances k d)
