-- What is told, as JSON values.
use Rattle.std.specs.Prelude.{ℕ, List}
use Rattle.serde_json.specs.Data.{Data}
use Rattle.af_runs.specs.declared.run.Run.{Run}
use Rattle.af_sched.specs.declared.dag_row.DagRow.{DagRow}
use Rattle.af_vars.specs.declared.variable.Variable.{Variable}
use Rattle.af_ops.specs.declared.status.Status.{Status}
use Rattle.af_ops.specs.Fields.{object_of}
use Rattle.af_ops.specs.Rows.{ClearedTold, InstanceTold, PoolTold, TaskTold, cleared_fields, dag_fields, instance_fields, pool_fields, run_fields, task_fields, variable_fields, version_fields, problem_fields}

abbrev pub dag_data : DagRow → Data
dag_data row = object_of (dag_fields row)

abbrev pub instance_data : InstanceTold → Data
instance_data told = object_of (instance_fields told)

abbrev pub cleared_data : ClearedTold → Data
cleared_data told = object_of (cleared_fields told)

abbrev pub task_data : TaskTold → Data
task_data told = object_of (task_fields told)

abbrev pub run_data : Run → Data
run_data run = object_of (run_fields run)

abbrev pub pool_data : PoolTold → Data
pool_data told = object_of (pool_fields told)

abbrev pub variable_data : Variable → Data
variable_data variable = object_of (variable_fields variable)

-- what the server is
abbrev pub version_data : Data
version_data = object_of version_fields

-- a fault (RFC 9457, section 3)
abbrev pub fault_data : Status → List ℕ → Data
fault_data status detail = object_of (problem_fields record { status = status; detail = detail })
