use Rattle.af_ops.proofs.PolicyLawLemmas.{refusals_leave}
use Rattle.af_ops.proofs.policy_laws.refusals_leave_the_versions.Goals as goal

pub returns : goal.returns
returns c = refusals_leave
