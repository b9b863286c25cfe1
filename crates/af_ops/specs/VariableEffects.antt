-- What a permitted operation on variables does (Airflow 2, "Variables").
use Rattle.std.specs.Prelude.{ℕ, List, map, length, nat_eq, Option, Some, None, ok_or, Result, Ok, Err, codes, ⊤, if◌then◌else◌}
use Rattle.std.specs.Cmp.Lexicographic.{pointwise}
use Rattle.serde_json.specs.Data.{Data}
use Rattle.serde_json.specs.Written.{compact_text}
use Rattle.af_base.specs.Readings.{◌>>=◌}
use Rattle.af_listing.specs.Pages.{cut}
use Rattle.af_listing.specs.Windows.{Cut}
use Rattle.af_policy.specs.declared.bad_input.Parameter.{Parameter}
use Rattle.af_sched.specs.State.{StateRows}
use Rattle.af_vars.specs.Variables.{add_fault, change_fault, variable_of, with_value, with_variable, without_variable}
use Rattle.af_vars.specs.declared.fault.VariableFault.{VariableFault}
use Rattle.af_vars.specs.declared.fault.VariableFault.TheVariants as variable_fault
use Rattle.af_vars.specs.declared.variable.Variable.{Variable}
use Rattle.af_ops.specs.declared.answer.OpFault.{OpFault}
use Rattle.af_ops.specs.declared.answer.OpFault.TheVariants as fault
use Rattle.af_ops.specs.declared.body_fault.BodyFault.{BodyFault}
use Rattle.af_ops.specs.declared.variable_op.VariableOp.{VariableOp}
use Rattle.af_ops.specs.declared.variable_op.VariableOp.TheVariants as variable_op
use Rattle.af_ops.specs.EffectParts.{Effect, changed_to, input_or, kept, left_with, window_or}
use Rattle.af_ops.specs.Fields.{late_listing_of}
use Rattle.af_ops.specs.Replies.{variable_data}

-- ---- faults

-- how the fault of a change of variables is told
abbrev pub told_fault : VariableFault → OpFault
told_fault variable_fault.NoSuchVariable = fault.NoSuchVariable
told_fault variable_fault.Exists = fault.Exists
told_fault variable_fault.Full = fault.TooMany
told_fault variable_fault.OutOfMemory = fault.OutOfMemory

abbrev pub unless_fault : Option VariableFault → Result ⊤ OpFault
unless_fault None = Ok tt
unless_fault (Some why) = Err (told_fault why)

-- the variable of a key
abbrev pub variable_or : StateRows → List ℕ → Result Variable OpFault
variable_or state key = ok_or (variable_of state.variables key) fault.NoSuchVariable

-- ---- the operations

-- the variables of a page, by key, and how many there are
abbrev pub variables_data : Cut → List Variable → Data
variables_data window variables = late_listing_of (codes "variables") (map variable_data (cut window variables)) (length variables)

abbrev pub listed_variables : StateRows → Result Cut Parameter → Result Effect OpFault
listed_variables state asked = do
  window ← window_or asked
  Ok (kept (variables_data window state.variables))

-- a variable is added, and told
abbrev pub adding : StateRows → Variable → Effect
adding state variable = changed_to (record state { variables = with_variable state.variables variable }) (variable_data variable)

abbrev pub variable_added : StateRows → Result Variable BodyFault → Result Effect OpFault
variable_added state input = do
  variable ← input_or input
  free ← unless_fault (add_fault state.variables variable.key)
  Ok (adding state variable)

-- one variable
abbrev pub got_variable : StateRows → List ℕ → Result Effect OpFault
got_variable state key = do
  variable ← variable_or state key
  Ok (kept (variable_data variable))

-- a variable with another text, and told as it then stands; where it holds this one already, nothing changes
abbrev pub writing : StateRows → List ℕ → Variable → List ℕ → Effect
writing state key variable value = record {
  reply = Some (compact_text (variable_data (record variable { value = value })));
  next = if pointwise nat_eq variable.value value then None else Some (record state { variables = with_value state.variables key value });
}

abbrev pub variable_changed : StateRows → List ℕ → Result (List ℕ) BodyFault → Result Effect OpFault
variable_changed state key input = do
  value ← input_or input
  variable ← variable_or state key
  Ok (writing state key variable value)

-- a variable is deleted
abbrev pub variable_deleted : StateRows → List ℕ → Result Effect OpFault
variable_deleted state key = do
  free ← unless_fault (change_fault state.variables key)
  Ok (left_with (record state { variables = without_variable state.variables key }))

abbrev pub variable_effect : StateRows → VariableOp → Result Effect OpFault
variable_effect state (variable_op.List asked) = listed_variables state asked
variable_effect state (variable_op.Add input) = variable_added state input
variable_effect state (variable_op.Get key) = got_variable state key
variable_effect state (variable_op.Change key input) = variable_changed state key input
variable_effect state (variable_op.Delete key) = variable_deleted state key
