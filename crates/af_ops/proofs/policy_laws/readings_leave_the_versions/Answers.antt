use Rattle.af_ops.proofs.PolicyLawLemmas.{readings_leave}
use Rattle.af_ops.proofs.policy_laws.readings_leave_the_versions.Goals as goal

pub returns : goal.returns
returns c = readings_leave
