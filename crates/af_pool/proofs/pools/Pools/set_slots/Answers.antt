use Rattle.af_pool.proofs.PoolLemmas.{ArePools-with_slots}
use Rattle.af_pool.proofs.pools.Pools.set_slots.Goals as goal

pub invariant_of-self : goal.invariant_of-self
invariant_of-self c =
    let can = rw (← c.self.view_is) at c.in_ok-place.ensures.ok in
    rw (c.change_at.ensures.rows, c.as_str.ensures.text) (ArePools-with_slots c.self.inside.rows.rows c.args.name.now c.in_ok-place.place c.args.slots can.stands c.self.invariant can.bounded)
