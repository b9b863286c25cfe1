use Rattle.af_store.proofs.ChainLemmas.{chains_tell}
use Rattle.af_store.proofs.laws.chains_tell_lines.Goals as goal

pub returns : goal.returns
returns c = chains_tell
