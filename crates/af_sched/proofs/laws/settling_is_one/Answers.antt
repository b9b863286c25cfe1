use Rattle.af_sched.proofs.SettleLemmas.{settling_is_one}
use Rattle.af_sched.proofs.laws.settling_is_one.Goals as goal

pub returns : goal.returns
returns c = settling_is_one
