use Rattle.std.proofs.Common.{rules}
use Rattle.af_ops.proofs.PoolLemmas.{remove_exact}
use Rattle.af_ops.proofs.operations.pools.pool_deleted.Goals as goal

pub returns-clause-exact : goal.returns-clause-exact
returns-clause-exact c =
    rw (c.without_reply.ensures, c.in_ok-name.ensures) (remove_exact c.args.state.now.rows c.args.name.now (search rules))
