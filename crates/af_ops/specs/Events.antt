-- The names of the events of operations (Airflow 2, "Stable REST API": event logs; which name each has is this product's own rule).
-- An operation that never changes anything has none.
use Rattle.std.specs.Prelude.{ℕ, List, [], codes}
use Rattle.af_ops.specs.declared.op.Op.{Op}
use Rattle.af_ops.specs.declared.op.Op.TheVariants as op
use Rattle.af_ops.specs.declared.pool_op.PoolOp.{PoolOp}
use Rattle.af_ops.specs.declared.pool_op.PoolOp.TheVariants as pool
use Rattle.af_ops.specs.declared.variable_op.VariableOp.{VariableOp}
use Rattle.af_ops.specs.declared.variable_op.VariableOp.TheVariants as variable

-- of an operation on pools
abbrev pub pool_event : PoolOp → List ℕ
pool_event (pool.Add input) = codes "post_pool"
pool_event (pool.Change name input) = codes "patch_pool"
pool_event (pool.Delete name) = codes "delete_pool"
pool_event _ = []

-- of an operation on variables
abbrev pub variable_event : VariableOp → List ℕ
variable_event (variable.Add input) = codes "post_variable"
variable_event (variable.Change key input) = codes "patch_variable"
variable_event (variable.Delete key) = codes "delete_variable"
variable_event _ = []

-- of any operation
abbrev pub op_event : Op → List ℕ
op_event (op.PauseDag dag_id input) = codes "patch_dag"
op_event (op.TriggerRun dag_id input) = codes "trigger_dag_run"
op_event (op.MarkRun dag_id run_id input) = codes "patch_dag_run"
op_event (op.DeleteRun dag_id run_id) = codes "delete_dag_run"
op_event (op.ClearRun dag_id run_id input) = codes "clear_dag_run"
op_event (op.ClearInstances dag_id input) = codes "clear_task_instances"
op_event (op.BackfillDag dag_id input) = codes "backfill"
op_event (op.Pool it) = pool_event it
op_event (op.Variable it) = variable_event it
op_event _ = []
