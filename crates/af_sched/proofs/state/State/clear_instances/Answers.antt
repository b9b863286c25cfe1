use Rattle.af_sched.proofs.MarkedLemmas.{AreRows-cleared}
use Rattle.af_sched.proofs.state.State.clear_instances.Goals as goal

pub invariant_of-self : goal.invariant_of-self
invariant_of-self c = rw c.clear.ensures (AreRows-cleared c.args.selection.now c.self.inside.dags c.self.inside.runs.rows c.args.filter.now c.self.invariant)
