use Rattle.af_store.proofs.EntryLemmas.{entry_of-entry_body}
use Rattle.af_store.proofs.laws.entries_are_read_back.Goals as goal

pub returns : goal.returns
returns c = entry_of-entry_body
