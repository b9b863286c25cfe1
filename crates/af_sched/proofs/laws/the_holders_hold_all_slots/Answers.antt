use Rattle.af_sched.proofs.CountLemmas.{held_busy, held_holders}
use Rattle.af_sched.proofs.laws.the_holders_hold_all_slots.Goals as goal

pub returns : goal.returns
returns c = λ state name. (held_holders state name, held_busy state name)
