use Rattle.af_sched.proofs.SettleLemmas.{Settling}
use Rattle.af_sched.proofs.tick.settle.settle.Given as goal

abbrev pub invariant-loop-place : goal.invariant-loop-place
invariant-loop-place l = Settling l.at l.dag.tasks l.order l.place-index l.initial.instances l.instances
