use Rattle.af_sched.proofs.StateLemmas.{AreRows-with}
use Rattle.af_sched.proofs.state.State.report.Goals as goal

pub invariant_of-self : goal.invariant_of-self
invariant_of-self c = rw c.set_instance.ensures (AreRows-with _ _ _ _ _ c.self.invariant)
