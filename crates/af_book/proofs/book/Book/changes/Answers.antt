use Rattle.af_book.proofs.KeptLemmas.{changes_are}
use Rattle.af_book.proofs.book.Book.changes.Goals as goal

pub returns : goal.returns
returns g c = changes_are c.self.inside.journal c.self.inside.end c.args.self.now c.self.view_is c.self.invariant
