use Rattle.af_policy.proofs.PermissionLemmas.{sync-adds_nothing_elsewhere}
use Rattle.af_policy.proofs.laws.sync_adds_nothing_elsewhere.Goals as goal

pub returns : goal.returns
returns c = sync-adds_nothing_elsewhere
