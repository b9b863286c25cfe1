use Rattle.std.proofs.Common.{◌≡◌}
use Rattle.af_runs.specs.Additions.{together}
use Rattle.af_sched.specs.Steps.{TakesRuns}
use Rattle.af_sched.proofs.tick.create.add_all.Given as goal

abbrev pub invariant-loop-new : goal.invariant-loop-new
invariant-loop-new l = TakesRuns l.yielded (together l.initial.additions) (together l.additions) × (l.additions.before ≡ l.initial.additions.before)
