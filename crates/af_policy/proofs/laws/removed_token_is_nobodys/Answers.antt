use Rattle.af_policy.proofs.TouchLemmas.{removed_token-nobodys}
use Rattle.af_policy.proofs.laws.removed_token_is_nobodys.Goals as goal

pub returns : goal.returns
returns c = removed_token-nobodys
