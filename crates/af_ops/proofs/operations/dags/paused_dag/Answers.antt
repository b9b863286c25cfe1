use Rattle.std.proofs.Common.{rules}
use Rattle.af_ops.proofs.EditLemmas.{pause_exact}
use Rattle.af_ops.proofs.operations.dags.paused_dag.Goals as goal

pub returns-clause-exact : goal.returns-clause-exact
returns-clause-exact c =
    rw c.of.ensures (pause_exact c.args.state.now.rows c.args.dag_id.now c.in_ok-is_paused.is_paused c.in_ok-row.row.now c.in_ok-edit.edit (search rules) (c.in_ok-edit.ensures.next c.args.state.now.rows))

pub returns-clause-room : goal.returns-clause-room
returns-clause-room c = rw c.of.ensures (c.in_ok-edit.ensures.room c.args.state.now)
