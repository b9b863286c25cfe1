use Rattle.af_sched.proofs.EndedLemmas as lemmas
use Rattle.af_sched.proofs.laws.ended_runs_stay.Goals as goal

pub returns : goal.returns
returns c = lemmas.ended_runs_stay
