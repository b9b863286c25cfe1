use Rattle.af_policy.proofs.LawLemmas.{sync-lists_exactly}
use Rattle.af_policy.proofs.laws.sync_lists_exactly.Goals as goal

pub returns : goal.returns
returns c = sync-lists_exactly
