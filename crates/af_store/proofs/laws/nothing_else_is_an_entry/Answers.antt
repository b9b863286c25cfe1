use Rattle.af_store.proofs.EntryLemmas.{entry_of-only}
use Rattle.af_store.proofs.laws.nothing_else_is_an_entry.Goals as goal

pub returns : goal.returns
returns c = entry_of-only
