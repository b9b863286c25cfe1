-- A ledger may go to another thread.
use Rattle.std.proofs.Crossing.{crosses}
use Rattle.std.proofs.MapsCrossing as maps
use denote.Param.Send.{IsSend, enum_send, sendable}
use denote.Enum.Declared.{shape}
use Rattle.af_graph.specs.contracts.task_spec.TaskSpec as task_spec
use Rattle.af_graph.specs.contracts.dag_spec.DagSpec as dag_spec
use Rattle.af_graph.specs.contracts.wiring.Wiring as wiring
use Rattle.af_graph.specs.contracts.dag.Dag as dag
use Rattle.af_sched.specs.contracts.dag_row.DagRow as dag_row
use Rattle.af_sched.specs.contracts.dag_table.DagTable as dag_table
use Rattle.af_runs.specs.contracts.instance.Instance as instance
use Rattle.af_runs.specs.contracts.run.Run as run
use Rattle.af_runs.specs.contracts.chains.Chains as chains
use Rattle.af_runs.specs.contracts.dag_lists.DagLists as dag_lists
use Rattle.af_runs.specs.contracts.index.Index as index
use Rattle.af_runs.specs.contracts.runs.Runs as runs
use Rattle.af_sched.specs.contracts.state.State as state
use Rattle.af_sched.specs.contracts.claim.Claim as claim
use Rattle.af_ops.specs.contracts.trigger.Trigger as trigger
use Rattle.af_ops.specs.contracts.clear.Clear as clear
use Rattle.af_ops.specs.contracts.backfill.Backfill as backfill
use Rattle.af_ops.specs.contracts.pool_op.PoolOp as pool_op
use Rattle.af_ops.specs.contracts.variable_op.VariableOp as variable_op
use Rattle.af_ops.specs.contracts.op.Op as op
use Rattle.af_audit.specs.contracts.act.Act as act
use Rattle.af_audit.specs.contracts.actor.Actor as actor
use Rattle.af_audit.specs.contracts.entry.Entry as entry
use Rattle.af_audit.specs.contracts.audit.Audit as audit
use Rattle.af_audit.specs.contracts.ledger.Ledger as ledger
use Rattle.af_audit.proofs.opening_state.OpeningState.TheSendSync as opening

pub task_spec_send : IsSend task_spec.the_row
task_spec_send = search (sendable, crosses) depth 60 fits 100000

pub dag_spec_send : IsSend (dag_spec.the_field).row
dag_spec_send = search (sendable, crosses) depth 60 fits 100000

pub wiring_send : IsSend (wiring.the_field).row
wiring_send = search (sendable, crosses) depth 60 fits 100000

pub dag_send : IsSend (dag.the_field).row
dag_send = search (sendable, crosses, dag_spec_send, wiring_send) depth 60 fits 100000

pub dag_row_send : IsSend (dag_row.the_field).row
dag_row_send = search (sendable, crosses, dag_send) depth 60 fits 100000

pub dag_table_send : IsSend dag_table.the_row
dag_table_send = search (sendable, crosses, dag_row_send) depth 60 fits 100000

pub instance_send : IsSend (instance.the_field).row
instance_send = search (sendable, crosses) depth 60 fits 100000

pub run_send : IsSend (run.the_field).row
run_send = search (sendable, crosses, instance_send) depth 60 fits 100000

pub chains_send : IsSend (chains.the_field).row
chains_send = search (sendable, crosses, maps.crosses) depth 60 fits 100000

pub dag_lists_send : IsSend (dag_lists.the_field).row
dag_lists_send = search (sendable, crosses, maps.crosses) depth 60 fits 100000

pub index_send : IsSend (index.the_field).row
index_send = search (sendable, crosses, chains_send, dag_lists_send) depth 60 fits 100000

pub runs_send : IsSend runs.the_row
runs_send = search (sendable, crosses, run_send, index_send) depth 60 fits 100000

pub state_send : IsSend state.the_row
state_send = search (sendable, crosses, dag_table_send, runs_send) depth 60 fits 100000

pub claim_send : IsSend (claim.the_field).row
claim_send = search (sendable, crosses) depth 60 fits 100000

pub trigger_send : IsSend (trigger.the_field).row
trigger_send = search (sendable, crosses) depth 60 fits 100000

pub clear_send : IsSend (clear.the_field).row
clear_send = search (sendable, crosses) depth 60 fits 100000

pub backfill_send : IsSend (backfill.the_field).row
backfill_send = search (sendable, crosses) depth 60 fits 100000

pub pool_op_send : IsSend (pool_op.the_field).row
pool_op_send = search (sendable, crosses) depth 60 fits 100000

pub variable_op_send : IsSend (variable_op.the_field).row
variable_op_send = search (sendable, crosses) depth 60 fits 100000

pub op_send : IsSend (op.the_field).row
op_send = enum_send (shape op.the_type) (
  tt,
  (
    (search (sendable, crosses) depth 60, tt),
    (
      (search (sendable, crosses) depth 60, tt),
      (
        (search (sendable, crosses) depth 60, (search (sendable, crosses) depth 60, tt)),
        (
          (search (sendable, crosses) depth 60, tt),
          (
            (search (sendable, crosses) depth 60, (search (sendable, crosses) depth 60, tt)),
            (
              (search (sendable, crosses) depth 60, (search (sendable, crosses, trigger_send) depth 60, tt)),
              (
                (search (sendable, crosses) depth 60, (search (sendable, crosses) depth 60, tt)),
                (
                  (search (sendable, crosses) depth 60, (search (sendable, crosses) depth 60, (search (sendable, crosses) depth 60, tt))),
                  (
                    (search (sendable, crosses) depth 60, (search (sendable, crosses) depth 60, tt)),
                    (
                      (search (sendable, crosses) depth 60, (search (sendable, crosses) depth 60, (search (sendable, crosses) depth 60, tt))),
                      (
                        (search (sendable, crosses) depth 60, (search (sendable, crosses) depth 60, (search (sendable, crosses) depth 60, tt))),
                        (
                          (search (sendable, crosses) depth 60, (search (sendable, crosses) depth 60, (search (sendable, crosses) depth 60, tt))),
                          (
                            (search (sendable, crosses) depth 60, (search (sendable, crosses, clear_send) depth 60, tt)),
                            (
                              (search (sendable, crosses) depth 60, (search (sendable, crosses, backfill_send) depth 60, tt)),
                              (
                                (search (sendable, pool_op_send) depth 60, tt),
                                (
                                  (search (sendable, variable_op_send) depth 60, tt),
                                  tt,
                                ),
                              ),
                            ),
                          ),
                        ),
                      ),
                    ),
                  ),
                ),
              ),
            ),
          ),
        ),
      ),
    ),
  ),
)

pub act_send : IsSend (act.the_field).row
act_send = search (sendable, op_send, claim_send) depth 60 fits 100000

pub actor_send : IsSend (actor.the_field).row
actor_send = search (sendable, crosses) depth 60 fits 100000

pub entry_send : IsSend (entry.the_field).row
entry_send = search (sendable, crosses, act_send, actor_send) depth 60 fits 100000

pub audit_send : IsSend audit.the_row
audit_send = search (sendable, crosses, entry_send) depth 60 fits 100000

pub ledger_send : IsSend ledger.the_row
ledger_send = search (sendable, state_send, audit_send, opening.the_send) depth 60 fits 100000
