use Rattle.std.proofs.Common.{ℕ}
use Rattle.af_runs.proofs.FindLemmas.{Walks}
use Rattle.af_runs.proofs.places.follow.Given as goal

abbrev pub invariant-loop-number : goal.invariant-loop-number
invariant-loop-number l = (m : ℕ) × Walks l.wanted l.rows m l.number

abbrev pub decreases-loop-number : goal.decreases-loop-number
decreases-loop-number l = l.number
