use Rattle.std.proofs.Common.{rules}
use Rattle.af_ops.proofs.VariableLemmas.{remove_exact}
use Rattle.af_ops.proofs.operations.variables.variable_deleted.Goals as goal

pub returns-clause-exact : goal.returns-clause-exact
returns-clause-exact c =
    rw (c.without_reply.ensures, c.in_ok-key.ensures) (remove_exact c.args.state.now.rows c.args.key.now (search rules))
