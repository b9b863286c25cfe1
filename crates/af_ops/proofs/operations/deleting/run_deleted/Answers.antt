use Rattle.std.proofs.Common.{rules}
use Rattle.af_ops.proofs.DeletingLemmas.{remove_exact, removes_same}
use Rattle.af_ops.proofs.operations.deleting.run_deleted.Goals as goal

pub returns-clause-told : goal.returns-clause-told
returns-clause-told c =
    rw (c.without_reply.ensures, removes_same c.args.state.now.rows c.args.dag_id.now c.args.run_id.now c.in_ok-run.run'.now c.runs-runs.ensures.kept (search rules))
    (search rules)

pub returns-clause-exact : goal.returns-clause-exact
returns-clause-exact c =
    rw c.without_reply.ensures
    (remove_exact c.args.state.now.rows c.args.dag_id.now c.args.run_id.now c.in_ok-run.run'.now c.runs-runs.ensures.kept (search rules))
