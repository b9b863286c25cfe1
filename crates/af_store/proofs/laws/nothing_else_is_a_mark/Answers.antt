use Rattle.af_store.proofs.ChainLemmas.{taken_as-only}
use Rattle.af_store.proofs.laws.nothing_else_is_a_mark.Goals as goal

pub returns : goal.returns
returns c = taken_as-only
