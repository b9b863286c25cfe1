use Rattle.af_ops.proofs.PolicyLawLemmas.{strangers}
use Rattle.af_ops.proofs.policy_laws.strangers_are_refused.Goals as goal

pub returns : goal.returns
returns c = strangers
