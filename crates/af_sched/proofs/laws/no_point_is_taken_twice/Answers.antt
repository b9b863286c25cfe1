use Rattle.af_sched.proofs.TakenLemmas as lemmas
use Rattle.af_sched.proofs.laws.no_point_is_taken_twice.Goals as goal

pub returns : goal.returns
returns c = lemmas.no_point_is_taken_twice
