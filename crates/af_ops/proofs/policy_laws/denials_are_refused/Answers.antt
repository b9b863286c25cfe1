use Rattle.af_ops.proofs.PolicyLawLemmas.{denials}
use Rattle.af_ops.proofs.policy_laws.denials_are_refused.Goals as goal

pub returns : goal.returns
returns c = denials
