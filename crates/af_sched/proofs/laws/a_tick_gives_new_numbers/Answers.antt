use Rattle.af_sched.proofs.NumberLemmas as lemmas
use Rattle.af_sched.proofs.laws.a_tick_gives_new_numbers.Goals as goal

pub returns : goal.returns
returns c = lemmas.tick_gives_new_numbers
