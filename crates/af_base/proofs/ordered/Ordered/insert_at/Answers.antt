use Rattle.std.proofs.Common.{sym}
use Rattle.af_base.proofs.OrderedLemmas.{with_row-is_insert, order-insert}
use Rattle.af_base.proofs.ordered.Ordered.insert_at.Goals as goal

pub invariant_of-self-2 : goal.invariant_of-self-2
invariant_of-self-2 g c =
    let fits = rw (← c.self.view_is) at c.requires in
    rw c.in_ok-insert.ensures.items (order-insert _ _ _ _ fits c.self.invariant)

pub returns-clause-ok : goal.returns-clause-ok
returns-clause-ok g c =
    let fits = rw (← c.self.view_is) at c.requires in
    rw (c.in_ok-insert.ensures.items, ← c.self.view_is) (sym (with_row-is_insert _ _ _ _ fits))
