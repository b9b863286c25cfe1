-- Variables: rows by key in byte order (Airflow 2, "Variables"). The limit is this product's own rule.
use Rattle.std.specs.Prelude.{ℕ, ◌≡◌, ◌≤◌, List, Bool, not, length, option_map, nat_le, Option, Some, None, Result, IfErr, if◌then◌else◌}
use Rattle.af_base.specs.Ordered.{Kept, AreInOrder, is_there, row_of, with_row, with_change, without_row}
use Rattle.af_vars.specs.declared.variable.Variable.{Variable}
use Rattle.af_vars.specs.declared.fault.VariableFault.{VariableFault}
use Rattle.af_vars.specs.declared.fault.VariableFault.TheVariants.{NoSuchVariable, Exists, Full, OutOfMemory}

-- the variables: their rows, by key in byte order, and for how many more rows memory is reserved
abbrev pub VariableRows : Type 0
VariableRows = Kept Variable

-- the most variables that there are
abbrev pub most_variables : ℕ
most_variables = 65_536

-- the key by which the rows are in order
abbrev pub key_of : Variable → List ℕ
key_of variable = variable.key

-- whether there is a variable of this key
abbrev pub has_variable : List Variable → List ℕ → Bool
has_variable variables key = is_there key_of variables key

-- the variable of this key
abbrev pub variable_of : List Variable → List ℕ → Option Variable
variable_of variables key = row_of key_of variables key

-- the text that the variable of this key holds
abbrev pub value_of : List Variable → List ℕ → Option (List ℕ)
value_of variables key = option_map (λ variable. variable.value) (variable_of variables key)

-- the variables with one more, in its place by key
abbrev pub with_variable : List Variable → Variable → List Variable
with_variable variables variable = with_row key_of variables variable

-- the variables, that of this key with another text
abbrev pub with_value : List Variable → List ℕ → List ℕ → List Variable
with_value variables key value = with_change key_of (λ variable. record variable { value = value }) variables key

-- the variables without that of this key
abbrev pub without_variable : List Variable → List ℕ → List Variable
without_variable variables key = without_row key_of variables key

-- the call succeeded, or a growth of memory was refused
abbrev pub IsOkOrOutOfMemory : {T : Type 0} → Result T VariableFault → Type 0
IsOkOrOutOfMemory result = IfErr result (λ fault. fault ≡ OutOfMemory)

-- why a variable is not added, memory aside: the first of these faults
abbrev pub add_fault : List Variable → List ℕ → Option VariableFault
add_fault variables key =
    if has_variable variables key then Some Exists
    else (if nat_le most_variables (length variables) then Some Full else None)

-- why a variable gets no other text, and is not removed
abbrev pub change_fault : List Variable → List ℕ → Option VariableFault
change_fault variables key = if not (has_variable variables key) then Some NoSuchVariable else None

-- what holds of the rows at all times
pub record AreVariables (variables : List Variable) : Type 0 where
  -- they are in byte order of their keys, and no two have one key
  pub in_order : AreInOrder key_of variables
  pub few : length variables ≤ most_variables
