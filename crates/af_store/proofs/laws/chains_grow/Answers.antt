use Rattle.af_store.proofs.ChainLemmas.{chain_push}
use Rattle.af_store.proofs.laws.chains_grow.Goals as goal

pub returns : goal.returns
returns c = chain_push
