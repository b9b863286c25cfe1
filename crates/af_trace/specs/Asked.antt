-- What a step asks for: what a request of its method, its target and its body asks for, if that is of the step's kind (this product's own
-- rule).
use Rattle.std.specs.Prelude.{ℕ, List, [], Bool, true, false, not, codes, Result, Ok, Err, if◌then◌else◌}
use Rattle.serde_json.specs.Data.{Data}
use Rattle.af_base.specs.Readings.{◌>>=◌}
use Rattle.af_ops.specs.declared.body_fault.BodyFault.{BodyFault}
use Rattle.af_ops.specs.declared.body_fault.BodyFault.TheVariants as body
use Rattle.af_ops.specs.declared.call.Call.{Call}
use Rattle.af_ops.specs.declared.call.Call.TheVariants.{State, Entries, Policy}
use Rattle.af_ops.specs.declared.op.Op.{Op}
use Rattle.af_ops.specs.declared.op.Op.TheVariants as op
use Rattle.af_ops.specs.declared.policy_op.PolicyOp.{PolicyOp}
use Rattle.af_ops.specs.declared.policy_op.PolicyOp.TheVariants as policy_op
use Rattle.af_ops.specs.declared.pool_op.PoolOp.{PoolOp}
use Rattle.af_ops.specs.declared.pool_op.PoolOp.TheVariants as pool_op
use Rattle.af_ops.specs.declared.variable_op.VariableOp.{VariableOp}
use Rattle.af_ops.specs.declared.variable_op.VariableOp.TheVariants as variable_op
use Rattle.af_ops.specs.Endpoints.{endpoint_of}
use Rattle.af_ops.specs.Table.{is_open}
use Rattle.af_http.specs.Routes.{call_of}
use Rattle.af_http.specs.declared.route_fault.RouteFault.{RouteFault}
use Rattle.af_http.specs.declared.route_fault.RouteFault.TheVariants as route
use Rattle.af_trace.specs.Members.{text_in}
use Rattle.af_trace.specs.declared.trace_fault.TraceFault.{TraceFault}
use Rattle.af_trace.specs.declared.trace_fault.TraceFault.TheVariants.{Form, OutOfMemory}

-- ---- what a method, a target and a body ask for

abbrev pub call_or : Result Call RouteFault → Result Call TraceFault
call_or (Ok call) = Ok call
call_or (Err fault) = Err Form

abbrev pub call_in : List ℕ → List ℕ → List ℕ → Result Call TraceFault
call_in method target body = call_or (call_of method target body)

-- ---- kinds of call

-- what is asked of the plane: an operation on the state, but for an open one, which is decided under no policy; or event logs
abbrev pub on_plane : Call → Result Call TraceFault
on_plane (State it) = if is_open (endpoint_of it) then Err Form else Ok (State it)
on_plane (Entries asked) = Ok (Entries asked)
on_plane (Policy it) = Err Form

abbrev pub on_policy : Call → Result PolicyOp TraceFault
on_policy (State it) = Err Form
on_policy (Entries asked) = Err Form
on_policy (Policy it) = Ok it

-- who am I, or a reading of roles or users
abbrev pub reading : PolicyOp → Result PolicyOp TraceFault
reading policy_op.Me = Ok policy_op.Me
reading (policy_op.Read asked) = Ok (policy_op.Read asked)
reading (policy_op.Change ask) = Err Form
reading (policy_op.Unread kind) = Err Form

-- a change of the policy, also one whose body is faulty
abbrev pub change : PolicyOp → Result PolicyOp TraceFault
change policy_op.Me = Err Form
change (policy_op.Read asked) = Err Form
change (policy_op.Change ask) = Ok (policy_op.Change ask)
change (policy_op.Unread kind) = Err Form

-- ---- of a step

-- what the members of a step ask for together
abbrev pub asked_in : Data → Result Call TraceFault
asked_in step = do
  method ← text_in (codes "method") step
  target ← text_in (codes "target") step
  body ← text_in (codes "body") step
  call_in method target body

abbrev pub on_plane_in : Data → Result Call TraceFault
on_plane_in step = asked_in step >>= on_plane

-- what a GET of the target asks for
abbrev pub got_in : Data → Result Call TraceFault
got_in step = text_in (codes "target") step >>= (λ target. call_in (codes "GET") target [])

abbrev pub reading_in : Data → Result PolicyOp TraceFault
reading_in step = do
  call ← got_in step
  it ← on_policy call
  reading it

abbrev pub change_in : Data → Result PolicyOp TraceFault
change_in step = do
  call ← asked_in step
  it ← on_policy call
  change it

-- ---- whether the body of a call was read

abbrev pub was_read : {X : Type 0} → Result X BodyFault → Bool
was_read (Ok x) = true
was_read (Err body.BadBody) = true
was_read (Err (body.BadMember it)) = true
was_read (Err body.OutOfMemory) = false

abbrev pub pool_was_read : PoolOp → Bool
pool_was_read (pool_op.List asked) = true
pool_was_read (pool_op.Add input) = was_read input
pool_was_read (pool_op.Get name) = true
pool_was_read (pool_op.Change name input) = was_read input
pool_was_read (pool_op.Delete name) = true

abbrev pub variable_was_read : VariableOp → Bool
variable_was_read (variable_op.List asked) = true
variable_was_read (variable_op.Add input) = was_read input
variable_was_read (variable_op.Get key) = true
variable_was_read (variable_op.Change key input) = was_read input
variable_was_read (variable_op.Delete key) = true

abbrev pub op_was_read : Op → Bool
op_was_read op.Version = true
op_was_read (op.ListDags asked) = true
op_was_read (op.GetDag dag_id) = true
op_was_read (op.PauseDag dag_id input) = was_read input
op_was_read (op.ListTasks dag_id) = true
op_was_read (op.ListRuns dag asked) = true
op_was_read (op.TriggerRun dag_id input) = was_read input
op_was_read (op.GetRun dag_id run_id) = true
op_was_read (op.MarkRun dag_id run_id input) = was_read input
op_was_read (op.DeleteRun dag_id run_id) = true
op_was_read (op.ClearRun dag_id run_id input) = was_read input
op_was_read (op.ListInstances dag_id run_id asked) = true
op_was_read (op.GetInstance dag_id run_id task_id) = true
op_was_read (op.ClearInstances dag_id input) = was_read input
op_was_read (op.BackfillDag dag_id input) = was_read input
op_was_read (op.Pool it) = pool_was_read it
op_was_read (op.Variable it) = variable_was_read it

abbrev pub policy_was_read : PolicyOp → Bool
policy_was_read policy_op.Me = true
policy_was_read (policy_op.Read asked) = true
policy_was_read (policy_op.Change ask) = true
policy_was_read (policy_op.Unread kind) = false

-- whether nothing of a call was left unread for lack of memory
abbrev pub call_was_read : Call → Bool
call_was_read (State it) = op_was_read it
call_was_read (Entries asked) = true
call_was_read (Policy it) = policy_was_read it

-- ---- what was read of a call, if it is all of it

abbrev pub read_whole : Call → Result Call TraceFault
read_whole it = if call_was_read it then Ok it else Err OutOfMemory

abbrev pub whole : Result Call RouteFault → Result Call TraceFault
whole (Ok it) = read_whole it
whole (Err route.OutOfMemory) = Err OutOfMemory
whole (Err route.NoPath) = Err Form
whole (Err (route.BadMethod methods)) = Err Form
