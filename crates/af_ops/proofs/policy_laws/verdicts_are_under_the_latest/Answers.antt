use Rattle.af_ops.proofs.PolicyUnderLemmas.{under_the_latest}
use Rattle.af_ops.proofs.policy_laws.verdicts_are_under_the_latest.Goals as goal

pub returns : goal.returns
returns c = under_the_latest
