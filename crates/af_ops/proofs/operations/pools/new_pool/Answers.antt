use Rattle.af_ops.proofs.PoolLemmas.{add_exact}
use Rattle.af_ops.proofs.operations.pools.new_pool.Goals as goal

pub returns-clause-exact : goal.returns-clause-exact
returns-clause-exact c =
    rw (c.of.ensures, c.in_ok-name.ensures) (add_exact c.args.state.now.rows c.args.pool.now.name c.args.pool.now.slots c.requires.free)
