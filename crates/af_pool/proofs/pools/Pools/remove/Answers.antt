use Rattle.af_pool.proofs.PoolLemmas.{ArePools-without, needed_stay}
use Rattle.af_pool.proofs.pools.Pools.remove.Goals as goal

pub invariant_of-self : goal.invariant_of-self
invariant_of-self g c =
    let can = rw (← c.self.view_is) at c.in_ok-place.ensures.ok in
    rw (c.remove_at-pool.ensures.rows, c.as_str.ensures.text) (ArePools-without _ _ c.self.invariant can.other)

pub returns-clause-needed : goal.returns-clause-needed
returns-clause-needed g c =
    let can = rw (← c.self.view_is) at c.in_ok-place.ensures.ok in
    rw (c.remove_at-pool.ensures.rows, c.as_str.ensures.text, ← c.self.view_is) (needed_stay g.T.NamesPools.pools c.args.rows.now _ _ can.other can.free)
