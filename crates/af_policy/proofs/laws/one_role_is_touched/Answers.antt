use Rattle.af_policy.proofs.TouchLemmas.{one_role-touched}
use Rattle.af_policy.proofs.laws.one_role_is_touched.Goals as goal

pub returns : goal.returns
returns c = one_role-touched
