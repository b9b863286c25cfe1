use Rattle.af_policy.proofs.StandLemmas.{changed_token-opens}
use Rattle.af_policy.proofs.laws.changed_token_opens.Goals as goal

pub returns : goal.returns
returns c = changed_token-opens
