use Rattle.af_sched.proofs.HeldLawLemmas.{held_of_instances}
use Rattle.af_sched.proofs.laws.held_slots_are_those_of_instances.Goals as goal

pub returns : goal.returns
returns c = held_of_instances
