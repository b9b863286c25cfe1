-- A ledger may be shared by threads.
use Rattle.std.proofs.Crossing.{crosses}
use Rattle.std.proofs.MapsCrossing as maps
use denote.Param.Send.{IsSync, enum_sync, sendable}
use denote.Enum.Declared.{shape}
use Rattle.af_graph.specs.contracts.task_spec.TaskSpec as task_spec
use Rattle.af_graph.specs.contracts.dag_spec.DagSpec as dag_spec
use Rattle.af_graph.specs.contracts.wiring.Wiring as wiring
use Rattle.af_graph.specs.contracts.dag.Dag as dag
use Rattle.af_sched.specs.contracts.dag_row.DagRow as dag_row
use Rattle.af_sched.specs.contracts.dag_table.DagTable as dag_table
use Rattle.af_runs.specs.contracts.instance.Instance as instance
use Rattle.af_runs.specs.contracts.run.Run as run
use Rattle.af_runs.specs.contracts.chains.Chains as chains
use Rattle.af_runs.specs.contracts.dag_lists.DagLists as dag_lists
use Rattle.af_runs.specs.contracts.index.Index as index
use Rattle.af_runs.specs.contracts.runs.Runs as runs
use Rattle.af_sched.specs.contracts.state.State as state
use Rattle.af_sched.specs.contracts.claim.Claim as claim
use Rattle.af_ops.specs.contracts.trigger.Trigger as trigger
use Rattle.af_ops.specs.contracts.clear.Clear as clear
use Rattle.af_ops.specs.contracts.backfill.Backfill as backfill
use Rattle.af_ops.specs.contracts.pool_op.PoolOp as pool_op
use Rattle.af_ops.specs.contracts.variable_op.VariableOp as variable_op
use Rattle.af_ops.specs.contracts.op.Op as op
use Rattle.af_audit.specs.contracts.act.Act as act
use Rattle.af_audit.specs.contracts.actor.Actor as actor
use Rattle.af_audit.specs.contracts.entry.Entry as entry
use Rattle.af_audit.specs.contracts.audit.Audit as audit
use Rattle.af_audit.specs.contracts.ledger.Ledger as ledger
use Rattle.af_audit.proofs.opening_state.OpeningState.TheSendSync as opening

pub task_spec_sync : IsSync task_spec.the_row
task_spec_sync = search (sendable, crosses) depth 60 fits 100000

pub dag_spec_sync : IsSync (dag_spec.the_field).row
dag_spec_sync = search (sendable, crosses) depth 60 fits 100000

pub wiring_sync : IsSync (wiring.the_field).row
wiring_sync = search (sendable, crosses) depth 60 fits 100000

pub dag_sync : IsSync (dag.the_field).row
dag_sync = search (sendable, crosses, dag_spec_sync, wiring_sync) depth 60 fits 100000

pub dag_row_sync : IsSync (dag_row.the_field).row
dag_row_sync = search (sendable, crosses, dag_sync) depth 60 fits 100000

pub dag_table_sync : IsSync dag_table.the_row
dag_table_sync = search (sendable, crosses, dag_row_sync) depth 60 fits 100000

pub instance_sync : IsSync (instance.the_field).row
instance_sync = search (sendable, crosses) depth 60 fits 100000

pub run_sync : IsSync (run.the_field).row
run_sync = search (sendable, crosses, instance_sync) depth 60 fits 100000

pub chains_sync : IsSync (chains.the_field).row
chains_sync = search (sendable, crosses, maps.crosses) depth 60 fits 100000

pub dag_lists_sync : IsSync (dag_lists.the_field).row
dag_lists_sync = search (sendable, crosses, maps.crosses) depth 60 fits 100000

pub index_sync : IsSync (index.the_field).row
index_sync = search (sendable, crosses, chains_sync, dag_lists_sync) depth 60 fits 100000

pub runs_sync : IsSync runs.the_row
runs_sync = search (sendable, crosses, run_sync, index_sync) depth 60 fits 100000

pub state_sync : IsSync state.the_row
state_sync = search (sendable, crosses, dag_table_sync, runs_sync) depth 60 fits 100000

pub claim_sync : IsSync (claim.the_field).row
claim_sync = search (sendable, crosses) depth 60 fits 100000

pub trigger_sync : IsSync (trigger.the_field).row
trigger_sync = search (sendable, crosses) depth 60 fits 100000

pub clear_sync : IsSync (clear.the_field).row
clear_sync = search (sendable, crosses) depth 60 fits 100000

pub backfill_sync : IsSync (backfill.the_field).row
backfill_sync = search (sendable, crosses) depth 60 fits 100000

pub pool_op_sync : IsSync (pool_op.the_field).row
pool_op_sync = search (sendable, crosses) depth 60 fits 100000

pub variable_op_sync : IsSync (variable_op.the_field).row
variable_op_sync = search (sendable, crosses) depth 60 fits 100000

pub op_sync : IsSync (op.the_field).row
op_sync = enum_sync (shape op.the_type) (
  tt,
  (
    (search (sendable, crosses) depth 60, tt),
    (
      (search (sendable, crosses) depth 60, tt),
      (
        (search (sendable, crosses) depth 60, (search (sendable, crosses) depth 60, tt)),
        (
          (search (sendable, crosses) depth 60, tt),
          (
            (search (sendable, crosses) depth 60, (search (sendable, crosses) depth 60, tt)),
            (
              (search (sendable, crosses) depth 60, (search (sendable, crosses, trigger_sync) depth 60, tt)),
              (
                (search (sendable, crosses) depth 60, (search (sendable, crosses) depth 60, tt)),
                (
                  (search (sendable, crosses) depth 60, (search (sendable, crosses) depth 60, (search (sendable, crosses) depth 60, tt))),
                  (
                    (search (sendable, crosses) depth 60, (search (sendable, crosses) depth 60, tt)),
                    (
                      (search (sendable, crosses) depth 60, (search (sendable, crosses) depth 60, (search (sendable, crosses) depth 60, tt))),
                      (
                        (search (sendable, crosses) depth 60, (search (sendable, crosses) depth 60, (search (sendable, crosses) depth 60, tt))),
                        (
                          (search (sendable, crosses) depth 60, (search (sendable, crosses) depth 60, (search (sendable, crosses) depth 60, tt))),
                          (
                            (search (sendable, crosses) depth 60, (search (sendable, crosses, clear_sync) depth 60, tt)),
                            (
                              (search (sendable, crosses) depth 60, (search (sendable, crosses, backfill_sync) depth 60, tt)),
                              (
                                (search (sendable, pool_op_sync) depth 60, tt),
                                (
                                  (search (sendable, variable_op_sync) depth 60, tt),
                                  tt,
                                ),
                              ),
                            ),
                          ),
                        ),
                      ),
                    ),
                  ),
                ),
              ),
            ),
          ),
        ),
      ),
    ),
  ),
)

pub act_sync : IsSync (act.the_field).row
act_sync = search (sendable, op_sync, claim_sync) depth 60 fits 100000

pub actor_sync : IsSync (actor.the_field).row
actor_sync = search (sendable, crosses) depth 60 fits 100000

pub entry_sync : IsSync (entry.the_field).row
entry_sync = search (sendable, crosses, act_sync, actor_sync) depth 60 fits 100000

pub audit_sync : IsSync audit.the_row
audit_sync = search (sendable, crosses, entry_sync) depth 60 fits 100000

pub ledger_sync : IsSync ledger.the_row
ledger_sync = search (sendable, state_sync, audit_sync, opening.the_sync) depth 60 fits 100000
