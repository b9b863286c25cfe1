use Rattle.std.proofs.Common.{◌==◌, refl, rules}
use Rattle.af_ops.proofs.PoolLemmas.{set_exact}
use Rattle.af_ops.proofs.operations.pools.pool_changed.Goals as goal

pub returns-clause-exact : goal.returns-clause-exact
returns-clause-exact c =
    rw (c.of.ensures, c.in_ok-edit.ensures)
    (set_exact (c.in_ok-pool.pool.now.slots == c.in_ok-slots.slots) c.args.state.now.rows c.args.name.now c.in_ok-pool.pool.now c.in_ok-slots.slots (search rules) refl)
