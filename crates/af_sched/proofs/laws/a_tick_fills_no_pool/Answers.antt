use Rattle.af_sched.proofs.SlotsLawLemmas.{slots_kept}
use Rattle.af_sched.proofs.laws.a_tick_fills_no_pool.Goals as goal

pub returns : goal.returns
returns c = slots_kept
