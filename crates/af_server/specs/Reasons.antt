-- Why a configuration or a trace is refused, in one word, and which reason each fault of a row is (this product's own rule).
use Rattle.std.specs.Prelude.{ℕ, List, codes}
use Rattle.af_names.specs.declared.name_error.NameError.{NameError}
use Rattle.af_names.specs.declared.name_error.NameError.TheVariants as name
use Rattle.af_policy.specs.declared.change_fault.ChangeFault.{ChangeFault}
use Rattle.af_policy.specs.declared.change_fault.ChangeFault.TheVariants as change
use Rattle.af_policy.specs.declared.row_fault.RowFault.{RowFault}
use Rattle.af_policy.specs.declared.row_fault.RowFault.TheVariants as row
use Rattle.af_graph.specs.declared.dag_fault.DagFault.{DagFault}
use Rattle.af_graph.specs.declared.dag_fault.DagFault.TheVariants as dag
use Rattle.af_pool.specs.declared.fault.PoolFault.{PoolFault}
use Rattle.af_pool.specs.declared.fault.PoolFault.TheVariants as pool
use Rattle.af_vars.specs.declared.fault.VariableFault.{VariableFault}
use Rattle.af_vars.specs.declared.fault.VariableFault.TheVariants as variable
use Rattle.af_sched.specs.declared.add_dag_fault.AddDagFault.{AddDagFault}
use Rattle.af_sched.specs.declared.add_dag_fault.AddDagFault.TheVariants as add
use Rattle.af_trace.specs.declared.trace_fault.TraceFault.{TraceFault}
use Rattle.af_trace.specs.declared.trace_fault.TraceFault.TheVariants as trace
use Rattle.af_server.specs.declared.reason.Reason.{Reason}
use Rattle.af_server.specs.declared.reason.Reason.TheVariants.{Unreadable, Syntax, Shape, Name, Duplicate, Role, Action, Pair, Admin, Pool, Graph, Schedule, Limit, Memory, Trace}

abbrev pub reason_text : Reason → List ℕ
reason_text Unreadable = codes "unreadable"
reason_text Syntax = codes "syntax"
reason_text Shape = codes "shape"
reason_text Name = codes "name"
reason_text Duplicate = codes "duplicate"
reason_text Role = codes "role"
reason_text Action = codes "action"
reason_text Pair = codes "pair"
reason_text Admin = codes "admin"
reason_text Pool = codes "pool"
reason_text Graph = codes "graph"
reason_text Schedule = codes "schedule"
reason_text Limit = codes "limit"
reason_text Memory = codes "memory"
reason_text Trace = codes "trace"

-- a text that is no name
abbrev pub name_reason : NameError → Reason
name_reason name.BadName = Name
name_reason name.TooLong = Name
name_reason name.OutOfMemory = Memory

-- a role or a user that is not added
abbrev pub row_reason : RowFault → Reason
row_reason row.UnknownRole = Role
row_reason row.Exists = Duplicate
row_reason row.TooMany = Limit
row_reason row.OutOfMemory = Memory

-- a pool that is not added, or does not get its slots
abbrev pub pool_reason : PoolFault → Reason
pool_reason pool.BadSlots = Limit
pool_reason pool.NoSuchPool = Pool
pool_reason pool.Exists = Duplicate
pool_reason pool.DefaultPool = Pool
pool_reason pool.InUse = Pool
pool_reason pool.Full = Limit
pool_reason pool.OutOfMemory = Memory

-- a variable that is not added
abbrev pub variable_reason : VariableFault → Reason
variable_reason variable.NoSuchVariable = Name
variable_reason variable.Exists = Duplicate
variable_reason variable.Full = Limit
variable_reason variable.OutOfMemory = Memory

-- tasks that make no DAG
abbrev pub graph_reason : DagFault (List ℕ) → Reason
graph_reason dag.NoTask = Graph
graph_reason dag.TooMany = Graph
graph_reason (dag.Duplicate task) = Graph
graph_reason (dag.UnknownUpstream task) = Graph
graph_reason (dag.Cycle task) = Graph
graph_reason (dag.BadSlots task) = Graph
graph_reason dag.OutOfMemory = Memory

-- a DAG that is not added
abbrev pub dag_reason : AddDagFault → Reason
dag_reason add.NoActiveRuns = Limit
dag_reason add.NoStep = Limit
dag_reason add.NoSuchPool = Pool
dag_reason add.Exists = Duplicate
dag_reason add.Full = Limit
dag_reason add.OutOfMemory = Memory

-- a change of the policy that is refused
abbrev pub change_reason : ChangeFault → Reason
change_reason (change.BadAction text) = Action
change_reason (change.PairNotAllowed text) = Pair
change_reason (change.UnknownRole name) = Role
change_reason change.NoSuchRole = Role
change_reason change.NoSuchUser = Name
change_reason change.DefaultRole = Role
change_reason change.Exists = Duplicate
change_reason change.RoleInUse = Role
change_reason change.LastAdmin = Admin
change_reason change.TooMany = Limit
change_reason change.OutOfMemory = Memory

-- a value that is no trace
abbrev pub trace_reason : TraceFault → Reason
trace_reason trace.Form = Trace
trace_reason trace.OutOfMemory = Memory
