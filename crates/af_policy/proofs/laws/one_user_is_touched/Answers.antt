use Rattle.af_policy.proofs.TouchLemmas.{one_user-touched}
use Rattle.af_policy.proofs.laws.one_user_is_touched.Goals as goal

pub returns : goal.returns
returns c = one_user-touched
