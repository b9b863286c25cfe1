use Rattle.af_policy.proofs.LawLemmas.{some_admin-stays}
use Rattle.af_policy.proofs.laws.some_admin_stays.Goals as goal

pub returns : goal.returns
returns c = some_admin-stays
