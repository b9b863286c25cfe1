use Rattle.af_sched.proofs.QueueLemmas.{queued_state_is_one}
use Rattle.af_sched.proofs.laws.the_queued_state_is_one.Goals as goal

pub returns : goal.returns
returns c = queued_state_is_one
