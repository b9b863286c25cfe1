use Rattle.af_sched.proofs.SettleLemmas.{settled_state_is_one}
use Rattle.af_sched.proofs.laws.the_settled_state_is_one.Goals as goal

pub returns : goal.returns
returns c = settled_state_is_one
