use Rattle.af_sched.proofs.LikeLemmas.{AreRows-same, same_paused}
use Rattle.af_sched.proofs.state.State.set_paused.Goals as goal

pub invariant_of-self : goal.invariant_of-self
invariant_of-self c =
    rw c.set_paused.ensures (AreRows-same _ _ _ _ (same_paused c.self.inside.dags c.args.dag_id.now c.args.is_paused) c.self.invariant.whole c.self.invariant)
