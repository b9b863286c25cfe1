use Rattle.af_sched.proofs.ClaimLemmas.{next_is_told}
use Rattle.af_sched.proofs.laws.a_claim_tells_the_next.Goals as goal

pub returns : goal.returns
returns c = next_is_told
