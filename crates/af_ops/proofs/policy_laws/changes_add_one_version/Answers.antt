use Rattle.af_ops.proofs.PolicyLawLemmas.{one_version}
use Rattle.af_ops.proofs.policy_laws.changes_add_one_version.Goals as goal

pub returns : goal.returns
returns c = one_version
