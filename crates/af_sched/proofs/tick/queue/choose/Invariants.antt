use Rattle.af_sched.proofs.ChoosingLemmas.{Choosing}
use Rattle.af_sched.proofs.tick.queue.choose.Given as goal

abbrev pub invariant-loop-place : goal.invariant-loop-place
invariant-loop-place l = (are : Rattle.af_sched.specs.Choosing.AreCandidates l.all l.candidates) → Choosing l.pools.rows l.all l.candidates are l.place l.held l.seats.items
