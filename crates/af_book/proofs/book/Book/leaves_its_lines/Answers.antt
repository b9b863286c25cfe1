use Rattle.std.proofs.Common.{ap, subst, sym}
use Rattle.af_journal.specs.Shown.{MayLeave}
use Rattle.af_book.specs.Kept.{Kept}
use Rattle.af_book.proofs.KeptLemmas.{reached, stored, was_open}
use Rattle.af_book.proofs.book.Book.leaves_its_lines.Goals as goal

pub returns-clause-book : goal.returns-clause-book
returns-clause-book g c is_open =
    reached c.self.inside.journal c.self.inside.end c.args.self.now c.self.view_is c.self.invariant is_open

pub returns-clause-left : goal.returns-clause-left
returns-clause-left g c is_open db left =
    let it = c.self.inside.journal in
    let now = c.args.self.now in
    let same = ap (λ (k : Kept _). k.journal) c.self.view_is in
    stored it c.self.inside.end now c.self.view_is c.self.invariant is_open db
    (c.leaves_its_lines.ensures.left (was_open it c.self.inside.end now c.self.view_is c.self.invariant is_open) db (subst (λ j. MayLeave g.S.Store j db) (sym same) left))
