use Rattle.af_store.proofs.EntryLemmas.{entry_of-entry_body}
use Rattle.af_store.proofs.entry_line.entry_body.Goals as goal

pub returns-clause-read_back : goal.returns-clause-read_back
returns-clause-read_back c = entry_of-entry_body c.args.entry.now _ c.show_entry.ensures c.in_ok-text.ensures
