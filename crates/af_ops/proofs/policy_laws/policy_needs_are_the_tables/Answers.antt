use Rattle.af_ops.proofs.PolicyLawLemmas.{policy_needs}
use Rattle.af_ops.proofs.policy_laws.policy_needs_are_the_tables.Goals as goal

pub returns : goal.returns
returns c = policy_needs
