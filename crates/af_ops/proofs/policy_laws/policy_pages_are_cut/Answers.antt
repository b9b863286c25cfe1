use Rattle.af_ops.proofs.PolicyLawLemmas.{pages_cut}
use Rattle.af_ops.proofs.policy_laws.policy_pages_are_cut.Goals as goal

pub returns : goal.returns
returns g c = pages_cut
