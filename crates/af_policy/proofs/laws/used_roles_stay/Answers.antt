use Rattle.af_policy.proofs.LawLemmas.{used_roles-stay}
use Rattle.af_policy.proofs.laws.used_roles_stay.Goals as goal

pub returns : goal.returns
returns c = used_roles-stay
