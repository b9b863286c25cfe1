use Rattle.std.proofs.Common.{◌≡◌, ◌<◌, ℕ, get_or}
use Rattle.af_runs.specs.declared.instance.Instance.{Instance}
use Rattle.af_runs.proofs.instances.same_instances.Given as goal

abbrev pub invariant-loop-place : goal.invariant-loop-place
invariant-loop-place l = (k : ℕ) (d : Instance) → k < l.place → get_or l.one k d ≡ get_or l.other k d
