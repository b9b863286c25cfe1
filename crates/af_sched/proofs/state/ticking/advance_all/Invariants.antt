use Rattle.std.proofs.Common.{◌≡◌, fold}
use Rattle.af_runs.specs.Runs.{with_advanced}
use Rattle.af_sched.proofs.state.ticking.advance_all.Given as goal

abbrev pub invariant-loop-later : goal.invariant-loop-later
invariant-loop-later l = l.runs ≡ record l.initial.runs { rows = fold with_advanced l.initial.runs.rows l.yielded }
