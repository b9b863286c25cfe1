use Rattle.af_journal.specs.Lines.{entries_of}
use Rattle.af_book.proofs.GroupLemmas.{changes_are}
use Rattle.af_book.proofs.group.Group.changes.Goals as goal

pub returns : goal.returns
returns c = changes_are c.self.inside.start c.self.inside.end (entries_of c.self.inside.lines.items) c.args.self.now c.self.view_is c.self.invariant
