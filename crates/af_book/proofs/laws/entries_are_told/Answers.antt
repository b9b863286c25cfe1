use Rattle.af_book.proofs.LawLemmas.{entry_there}
use Rattle.af_book.proofs.laws.entries_are_told.Goals as goal

pub returns : goal.returns
returns c from stored entry next = c.nothing_else_is_an_entry.ensures stored.1 entry (entry_there from stored entry next)
