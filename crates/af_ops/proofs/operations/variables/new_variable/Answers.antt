use Rattle.af_ops.proofs.VariableLemmas.{add_exact}
use Rattle.af_ops.proofs.operations.variables.new_variable.Goals as goal

pub returns-clause-exact : goal.returns-clause-exact
returns-clause-exact c =
    rw (c.of.ensures, c.in_ok-variable.ensures) (add_exact c.args.state.now.rows c.args.variable.now c.requires.free)
