use Rattle.af_book.proofs.LawLemmas.{change_there}
use Rattle.af_book.proofs.laws.changes_are_told.Goals as goal

pub returns : goal.returns
returns c from stored change next = c.nothing_else_is_a_change.ensures stored.1 change (change_there from stored change next)
