use Rattle.std.proofs.Common.{drop}
use Rattle.af_world.specs.Runs.{AreAnswers}
use Rattle.af_world.proofs.TraceLemmas.{Alike}
use Rattle.af_world.proofs.trace.are_answered.Given as goal

-- the answers that are left are those of the steps that are left exactly where all are those of all
abbrev pub invariant-loop-i : goal.invariant-loop-i
invariant-loop-i l = Alike (AreAnswers l.fn.world l.steps l.answers) l.world (drop l.i l.steps) (drop l.i l.answers)
