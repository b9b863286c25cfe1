use Rattle.af_store.proofs.ChainLemmas.{taken_as-mark_of}
use Rattle.af_store.proofs.laws.marks_are_taken.Goals as goal

pub returns : goal.returns
returns c = taken_as-mark_of
