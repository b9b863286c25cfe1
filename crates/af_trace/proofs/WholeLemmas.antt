-- Where nothing of a call was left unread, what was read is what is asked for.
use Rattle.std.proofs.Common.{◌≡◌, ◌∙◌, inl, inr, refl, sym, ap, subst, Bool, true, false}
use Rattle.std.specs.Prelude.{Option, Some, Result, Ok, Err, if◌then◌else◌}
use Rattle.af_base.specs.Readings.{OrMemory}
use Rattle.af_policy.specs.declared.ask.Ask.{Ask}
use Rattle.af_policy.specs.declared.ask.Ask.TheVariants.{Made, Bad}
use Rattle.af_policy.specs.declared.change.Change.{Change}
use Rattle.af_policy.specs.declared.change.Change.TheVariants.{AddRole, SetRole, DropRole, AddUser, SetUser, DropUser, SyncDag}
use Rattle.af_ops.specs.declared.call.Call.{Call}
use Rattle.af_ops.specs.declared.call.Call.TheVariants.{State, Entries, Policy}
use Rattle.af_ops.specs.declared.op.Op.{Op}
use Rattle.af_ops.specs.declared.op.Op.TheVariants as op
use Rattle.af_ops.specs.declared.policy_op.PolicyOp.{PolicyOp}
use Rattle.af_ops.specs.declared.policy_op.PolicyOp.TheVariants as policy_op
use Rattle.af_ops.specs.declared.pool_op.PoolOp.{PoolOp}
use Rattle.af_ops.specs.declared.pool_op.PoolOp.TheVariants as pool_op
use Rattle.af_ops.specs.declared.variable_op.VariableOp.{VariableOp}
use Rattle.af_ops.specs.declared.variable_op.VariableOp.TheVariants as variable_op
use Rattle.af_ops.specs.Calls.{unread}
use Rattle.af_ops.specs.Endpoints as operations
use Rattle.af_ops.specs.PolicyOps as policies
use Rattle.af_ops.specs.PoolOps as pools
use Rattle.af_ops.specs.VariableOps as variables
use Rattle.af_http.specs.Routes.{IsAsked, IsRouted}
use Rattle.af_http.specs.declared.route_fault.RouteFault.{RouteFault}
use Rattle.af_http.specs.declared.route_fault.RouteFault.TheVariants as route
use Rattle.af_trace.specs.Asked.{call_or, call_was_read, op_was_read, policy_was_read, pool_was_read, variable_was_read, whole}
use Rattle.af_trace.specs.declared.trace_fault.TraceFault.{TraceFault}
use Rattle.af_trace.specs.declared.trace_fault.TraceFault.TheVariants.{OutOfMemory}

some_same : {X : Type 0} {x y : X} → Some x ≡ Some y → x ≡ y
some_same is = cc

pool_whole : (it : PoolOp) → pool_was_read (pools.unread it) ≡ true → pools.unread it ≡ it
pool_whole (pool_op.List asked) read = refl
pool_whole (pool_op.Add input) read = absurd (cc)
pool_whole (pool_op.Get name) read = refl
pool_whole (pool_op.Change name input) read = absurd (cc)
pool_whole (pool_op.Delete name) read = refl

variable_whole : (it : VariableOp) → variable_was_read (variables.unread it) ≡ true → variables.unread it ≡ it
variable_whole (variable_op.List asked) read = refl
variable_whole (variable_op.Add input) read = absurd (cc)
variable_whole (variable_op.Get key) read = refl
variable_whole (variable_op.Change key input) read = absurd (cc)
variable_whole (variable_op.Delete key) read = refl

op_whole : (it : Op) → op_was_read (operations.unread it) ≡ true → operations.unread it ≡ it
op_whole op.Version read = refl
op_whole (op.ListDags asked) read = refl
op_whole (op.GetDag dag_id) read = refl
op_whole (op.PauseDag dag_id input) read = absurd (cc)
op_whole (op.ListTasks dag_id) read = refl
op_whole (op.ListRuns dag asked) read = refl
op_whole (op.TriggerRun dag_id input) read = absurd (cc)
op_whole (op.GetRun dag_id run_id) read = refl
op_whole (op.MarkRun dag_id run_id input) read = absurd (cc)
op_whole (op.DeleteRun dag_id run_id) read = refl
op_whole (op.ClearRun dag_id run_id input) read = absurd (cc)
op_whole (op.ListInstances dag_id run_id asked) read = refl
op_whole (op.GetInstance dag_id run_id task_id) read = refl
op_whole (op.ClearInstances dag_id input) read = absurd (cc)
op_whole (op.BackfillDag dag_id input) read = absurd (cc)
op_whole (op.Pool it) read = ap (λ (it : PoolOp). op.Pool it) (pool_whole it read)
op_whole (op.Variable it) read = ap (λ (it : VariableOp). op.Variable it) (variable_whole it read)

change_whole : (change : Change) → policy_was_read (policies.unread_change change) ≡ true → policies.unread_change change ≡ policies.made change
change_whole (AddRole input) read = absurd (cc)
change_whole (SetRole input) read = absurd (cc)
change_whole (DropRole name) read = refl
change_whole (AddUser user) read = absurd (cc)
change_whole (SetUser patch) read = absurd (cc)
change_whole (DropUser name) read = refl
change_whole (SyncDag access) read = absurd (cc)

ask_whole : (ask : Ask) → policy_was_read (policies.unread_ask ask) ≡ true → policies.unread_ask ask ≡ policy_op.Change ask
ask_whole (Made change) read = change_whole change read
ask_whole (Bad kind input) read = absurd (cc)

policy_whole : (it : PolicyOp) → policy_was_read (policies.unread it) ≡ true → policies.unread it ≡ it
policy_whole policy_op.Me read = refl
policy_whole (policy_op.Read asked) read = refl
policy_whole (policy_op.Change ask) read = ask_whole ask read
policy_whole (policy_op.Unread kind) read = refl

-- what was read of a call without its body is that call, if nothing of it was left unread
call_whole : (call : Call) → call_was_read (unread call) ≡ true → unread call ≡ call
call_whole (State it) read = ap (λ (it : Op). State it) (op_whole it read)
call_whole (Entries asked) read = refl
call_whole (Policy it) read = ap (λ (it : PolicyOp). Policy it) (policy_whole it read)

read_is : (wanted call : Call) → IsAsked (Ok wanted) call → call_was_read call ≡ true → call ≡ wanted
read_is wanted call (inl is) read = some_same is
read_is wanted call (inr is) read =
    let same : call ≡ unread wanted = some_same is in
    same ∙ call_whole wanted (ap call_was_read (sym same) ∙ read)

-- ---- what is read, or out of memory

by_read : (expected : Result Call RouteFault) (call : Call) (b : Bool) → call_was_read call ≡ b → IsAsked expected call → OrMemory OutOfMemory (call_or expected) (if b then Ok call else Err OutOfMemory)
by_read (Ok wanted) call true read asked = ap (λ (it : Call). call_or (Ok it)) (sym (read_is wanted call asked read))
by_read (Err fault) call true read never = absurd never
by_read expected call false read asked = inr refl

by_found : (expected found : Result Call RouteFault) → IsRouted expected found → OrMemory OutOfMemory (call_or expected) (whole found)
by_found expected (Ok call) asked = by_read expected call (call_was_read call) refl asked
by_found expected (Err route.OutOfMemory) some = inr refl
by_found expected (Err route.NoPath) is = inl (ap call_or is)
by_found expected (Err (route.BadMethod methods)) is = inl (ap call_or is)

pub or_memory : (expected found : Result Call RouteFault) (told : Result Call TraceFault) → IsRouted expected found → told ≡ whole found → OrMemory OutOfMemory (call_or expected) told
or_memory expected found told is same = subst (OrMemory OutOfMemory (call_or expected)) (sym same) (by_found expected found is)
