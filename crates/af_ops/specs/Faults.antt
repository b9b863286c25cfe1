-- What is told of a fault: its status and its detail.
use Rattle.std.specs.Prelude.{ℕ, List, [], ◌++◌, Option, Some, None, slice_index_or, unwrap_or, codes}
use Rattle.af_names.specs.Isoformat.{isoformat}
use Rattle.af_policy.specs.Inputs.{parameter_text}
use Rattle.af_role.specs.Needs.{need_text}
use Rattle.af_ops.specs.declared.answer.CallFault.{CallFault}
use Rattle.af_ops.specs.declared.answer.CallFault.TheVariants as why
use Rattle.af_ops.specs.declared.answer.OpFault.{OpFault}
use Rattle.af_ops.specs.declared.answer.OpFault.TheVariants as fault
use Rattle.af_ops.specs.declared.op.Op.{Op}
use Rattle.af_ops.specs.declared.status.Status.{Status}
use Rattle.af_ops.specs.declared.status.Status.TheVariants as status
use Rattle.af_ops.specs.Bodies.{name_of}
use Rattle.af_ops.specs.Effects.{id_or}
use Rattle.af_ops.specs.Endpoints.{dag_of, given_id, row_name_of, run_of, task_ids_of, task_of}
use Rattle.af_ops.specs.Rows.{Problem}

abbrev pub fault_of : Status → List ℕ → Option Problem
fault_of status detail = Some record { status = status; detail = detail }

-- the status of a fault of an operation; of out of memory that of the fixed text with which the connection then ends
abbrev pub op_status : OpFault → Status
op_status (fault.BadParameter it) = status.BadRequest
op_status fault.BadBody = status.BadRequest
op_status (fault.BadMember it) = status.BadRequest
op_status fault.NoSuchDag = status.NotFound
op_status fault.NoSuchRun = status.NotFound
op_status fault.NoSuchTask = status.NotFound
op_status (fault.NoSuchTaskAt place) = status.NotFound
op_status fault.NoSuchPool = status.NotFound
op_status fault.NoSuchVariable = status.NotFound
op_status (fault.RunExists date) = status.Conflict
op_status (fault.DateTaken date) = status.Conflict
op_status fault.Exists = status.Conflict
op_status fault.NoSchedule = status.Conflict
op_status fault.TooMany = status.Conflict
op_status fault.DefaultPool = status.Conflict
op_status fault.InUse = status.Conflict
op_status fault.HistoryFull = status.InsufficientStorage
op_status fault.OutOfMemory = status.Unavailable

-- the fault of an operation; of out of memory nothing is told here, for the connection then ends with a fixed text
abbrev pub problem_of : Op → CallFault → Option Problem
problem_of asked why.Unauthenticated = fault_of status.Unauthorized (codes "authentication required")
problem_of asked (why.Denied need) = fault_of status.Forbidden (codes "missing permission " ++ need_text need (dag_of asked))
problem_of asked (why.Op (fault.BadParameter it)) = fault_of status.BadRequest (codes "bad parameter: " ++ parameter_text it)
problem_of asked (why.Op fault.BadBody) = fault_of status.BadRequest (codes "bad body")
problem_of asked (why.Op (fault.BadMember it)) = fault_of status.BadRequest (codes "bad member: " ++ name_of it)
problem_of asked (why.Op fault.NoSuchDag) = fault_of status.NotFound (codes "no such dag: " ++ unwrap_or (dag_of asked) [])
problem_of asked (why.Op fault.NoSuchRun) = fault_of status.NotFound (codes "no such run: " ++ unwrap_or (run_of asked) [])
problem_of asked (why.Op fault.NoSuchTask) = fault_of status.NotFound (codes "no such task: " ++ unwrap_or (task_of asked) [])
problem_of asked (why.Op (fault.NoSuchTaskAt place)) = fault_of status.NotFound (codes "no such task: " ++ slice_index_or (task_ids_of asked) place [])
problem_of asked (why.Op fault.NoSuchPool) = fault_of status.NotFound (codes "no such pool: " ++ row_name_of asked)
problem_of asked (why.Op fault.NoSuchVariable) = fault_of status.NotFound (codes "no such variable: " ++ row_name_of asked)
problem_of asked (why.Op (fault.RunExists date)) = fault_of status.Conflict (codes "run exists: " ++ id_or (given_id asked) date)
problem_of asked (why.Op (fault.DateTaken date)) = fault_of status.Conflict (codes "date taken: " ++ isoformat date)
problem_of asked (why.Op fault.Exists) = fault_of status.Conflict (codes "exists: " ++ row_name_of asked)
problem_of asked (why.Op fault.NoSchedule) = fault_of status.Conflict (codes "no schedule")
problem_of asked (why.Op fault.TooMany) = fault_of status.Conflict (codes "too many")
problem_of asked (why.Op fault.DefaultPool) = fault_of status.Conflict (codes "default pool")
problem_of asked (why.Op fault.InUse) = fault_of status.Conflict (codes "pool in use: " ++ row_name_of asked)
problem_of asked (why.Op fault.HistoryFull) = fault_of status.InsufficientStorage (codes "history full")
problem_of asked (why.Op fault.OutOfMemory) = None
