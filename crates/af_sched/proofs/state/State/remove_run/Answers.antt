use Rattle.af_sched.proofs.AdvanceLemmas.{AreRows-without}
use Rattle.af_sched.proofs.state.State.remove_run.Goals as goal

pub invariant_of-self : goal.invariant_of-self
invariant_of-self c = rw c.remove.ensures (AreRows-without c.self.inside.dags c.self.inside.runs.rows c.args.number c.self.invariant)
