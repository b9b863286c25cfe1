use Rattle.af_policy.proofs.TouchLemmas.{default_roles-stay}
use Rattle.af_policy.proofs.laws.default_roles_stay.Goals as goal

pub returns : goal.returns
returns c = default_roles-stay
