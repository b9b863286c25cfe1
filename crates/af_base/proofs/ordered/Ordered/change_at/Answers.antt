use Rattle.std.proofs.Common.{sym, ap, ◌∙◌}
use Rattle.af_base.proofs.OrderedLemmas.{with_change-is_set, order-set}
use Rattle.af_base.proofs.ordered.Ordered.change_at.Goals as goal

-- the change leaves the key
pub invariant_of-self : goal.invariant_of-self
invariant_of-self g c =
    order-set g.T.Keyed.key_of c.self.inside.rows.items c.args.place c.change.new.row c.index_mut.result.now
    (ap g.T.Keyed.key_of c.change.ensures
    ∙ g.met.C.Change.keeps_key c.args.change c.index_mut.result.now
    ∙ ap g.T.Keyed.key_of c.index_mut.ensures.value)
    c.self.invariant

pub returns-clause-rows : goal.returns-clause-rows
returns-clause-rows g c =
    let stands = rw (← c.self.view_is) at c.requires in
    rw (c.change.ensures, c.index_mut.ensures.value, ← c.self.view_is) (sym (with_change-is_set _ _ _ _ stands (g.C.Change.changed c.args.change) _))
