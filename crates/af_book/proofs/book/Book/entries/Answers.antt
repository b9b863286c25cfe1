use Rattle.af_book.proofs.KeptLemmas.{entries_are}
use Rattle.af_book.proofs.book.Book.entries.Goals as goal

pub returns : goal.returns
returns g c = entries_are c.self.inside.journal c.self.inside.end c.args.self.now c.self.view_is c.self.invariant
