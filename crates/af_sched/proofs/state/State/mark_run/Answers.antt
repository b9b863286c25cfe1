use Rattle.af_sched.proofs.MarkedLemmas.{AreRows-marked}
use Rattle.af_sched.proofs.state.State.mark_run.Goals as goal

pub invariant_of-self : goal.invariant_of-self
invariant_of-self c = rw c.mark.ensures (AreRows-marked c.args.mark c.args.at c.self.inside.dags c.self.inside.runs.rows c.args.number c.self.invariant)
