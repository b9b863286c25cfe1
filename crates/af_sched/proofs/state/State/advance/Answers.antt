use Rattle.af_sched.proofs.AdvanceLemmas.{AreRows-advanced}
use Rattle.af_sched.proofs.state.State.advance.Goals as goal

pub invariant_of-self : goal.invariant_of-self
invariant_of-self c = rw c.advance.ensures (AreRows-advanced c.self.inside.dags c.self.inside.runs.rows c.self.inside.runs.next c.args.later c.rows-rows.ensures.kept (rw (← c.self.view_is) at c.requires) c.self.invariant)
