-- The operations on variables, with what a request says of them.
use Rattle.std.specs.Prelude.{ℕ, List, [], Result, Ok, Err}
use Rattle.af_vars.specs.declared.variable.Variable.{Variable}
use Rattle.af_ops.specs.declared.body_fault.BodyFault.{BodyFault}
use Rattle.af_ops.specs.declared.body_fault.BodyFault.TheVariants.{OutOfMemory}
use Rattle.af_ops.specs.declared.endpoint.Endpoint.{Endpoint}
use Rattle.af_ops.specs.declared.endpoint.Endpoint.TheVariants as endpoint
use Rattle.af_ops.specs.declared.variable_op.VariableOp.{VariableOp}
use Rattle.af_ops.specs.declared.variable_op.VariableOp.TheVariants as variable_op

abbrev pub endpoint_of : VariableOp → Endpoint
endpoint_of (variable_op.List asked) = endpoint.ListVariables
endpoint_of (variable_op.Add input) = endpoint.AddVariable
endpoint_of (variable_op.Get key) = endpoint.GetVariable
endpoint_of (variable_op.Change key input) = endpoint.ChangeVariable
endpoint_of (variable_op.Delete key) = endpoint.DeleteVariable

abbrev pub added_key : Result Variable BodyFault → List ℕ
added_key (Ok variable) = variable.key
added_key (Err fault) = []

-- the key of the variable that it is about, in its path or in its body; no text where there is none
abbrev pub key_of : VariableOp → List ℕ
key_of (variable_op.List asked) = []
key_of (variable_op.Add input) = added_key input
key_of (variable_op.Get key) = key
key_of (variable_op.Change key input) = key
key_of (variable_op.Delete key) = key

-- the same operation, whose body was not read for lack of memory
abbrev pub unread : VariableOp → VariableOp
unread (variable_op.List asked) = variable_op.List asked
unread (variable_op.Add input) = variable_op.Add (Err OutOfMemory)
unread (variable_op.Get key) = variable_op.Get key
unread (variable_op.Change key input) = variable_op.Change key (Err OutOfMemory)
unread (variable_op.Delete key) = variable_op.Delete key
