use Rattle.af_policy.proofs.LawLemmas.{sync-keeps_the_rest}
use Rattle.af_policy.proofs.laws.sync_keeps_the_rest.Goals as goal

pub returns : goal.returns
returns c = sync-keeps_the_rest
