use Rattle.af_policy.proofs.TouchLemmas.{lack-decides}
use Rattle.af_policy.proofs.laws.lack_decides.Goals as goal

pub returns : goal.returns
returns c = lack-decides
