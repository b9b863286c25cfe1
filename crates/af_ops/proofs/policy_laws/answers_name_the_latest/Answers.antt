use Rattle.af_ops.proofs.PolicyLawLemmas.{latest_told}
use Rattle.af_ops.proofs.policy_laws.answers_name_the_latest.Goals as goal

pub returns : goal.returns
returns c = latest_told
