use Rattle.af_policy.proofs.PermissionLemmas.{sync-is_exact}
use Rattle.af_policy.proofs.laws.sync_is_exact.Goals as goal

pub returns : goal.returns
returns c = sync-is_exact
