use Rattle.std.proofs.Common.{sym, ap}
use Rattle.std.specs.Prelude.{Some}
use Rattle.af_base.proofs.OrderedLemmas.{row_of-is, without_row-is_remove, order-without}
use Rattle.af_base.proofs.ordered.Ordered.remove_at.Goals as goal

pub invariant_of-self : goal.invariant_of-self
invariant_of-self g c =
    let stands = rw (← c.self.view_is) at c.requires in
    rw (c.remove.ensures.items, ← without_row-is_remove _ _ _ _ stands) (order-without _ _ _ c.self.invariant)

pub returns-clause-row : goal.returns-clause-row
returns-clause-row g c =
    let stands = rw (← c.self.view_is) at c.requires in
    rw (← c.self.view_is, row_of-is _ _ _ _ stands c.remove.result) (ap Some c.remove.ensures.value)

pub returns-clause-rows : goal.returns-clause-rows
returns-clause-rows g c =
    let stands = rw (← c.self.view_is) at c.requires in
    rw (c.remove.ensures.items, ← c.self.view_is) (sym (without_row-is_remove _ _ _ _ stands))
