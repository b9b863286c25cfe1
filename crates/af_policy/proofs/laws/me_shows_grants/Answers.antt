use Rattle.af_policy.proofs.PermissionLemmas.{me-shows_grants}
use Rattle.af_policy.proofs.laws.me_shows_grants.Goals as goal

pub returns : goal.returns
returns c = me-shows_grants
