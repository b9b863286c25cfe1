use Rattle.af_sched.proofs.TickLemmas.{tick_is_one}
use Rattle.af_sched.proofs.laws.a_tick_is_one.Goals as goal

pub returns : goal.returns
returns c = tick_is_one
