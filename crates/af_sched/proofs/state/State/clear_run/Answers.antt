use Rattle.af_sched.proofs.MarkedLemmas.{AreRows-cleared_run}
use Rattle.af_sched.proofs.state.State.clear_run.Goals as goal

pub invariant_of-self : goal.invariant_of-self
invariant_of-self c = rw c.clear_run.ensures (AreRows-cleared_run c.args.selection.now c.self.inside.dags c.self.inside.runs.rows c.args.number c.self.invariant)
