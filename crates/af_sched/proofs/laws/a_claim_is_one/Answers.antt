use Rattle.af_sched.proofs.ClaimLemmas.{claim_is_one}
use Rattle.af_sched.proofs.laws.a_claim_is_one.Goals as goal

pub returns : goal.returns
returns c = claim_is_one
