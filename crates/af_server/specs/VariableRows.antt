-- A variable of a configuration: `key` and `value` (Airflow 2, "Variables"; the order of the faults is this product's own rule).
use Rattle.std.specs.Prelude.{ℕ, List, [], ◌∷◌, map, codes, Result, Ok}
use Rattle.serde_json.specs.Data.{Data}
use Rattle.af_names.specs.Names.{row_name_grammar}
use Rattle.af_vars.specs.Variables.{add_fault, with_variable}
use Rattle.af_vars.specs.declared.variable.Variable.{Variable}
use Rattle.af_base.specs.Readings.{◌>>=◌}
use Rattle.af_server.specs.declared.reason.Reason.{Reason}
use Rattle.af_server.specs.Drafts.{Draft, unless_fault}
use Rattle.af_server.specs.Members.{name_in, text_in}
use Rattle.af_server.specs.Reasons.{variable_reason}

abbrev pub variable_in : Data → Result Variable Reason
variable_in row = do
  key ← name_in row_name_grammar (codes "key") row
  value ← text_in (codes "value") row
  Ok (record { key = key; value = value })

-- the variables with one more, in its place by key
abbrev pub placed_variable : Draft → Variable → Result Draft Reason
placed_variable draft variable =
    unless_fault variable_reason (add_fault draft.state.variables variable.key) (
    record draft { state = record draft.state { variables = with_variable draft.state.variables variable } }
    )

abbrev pub variable_taken : Draft → Data → Result Draft Reason
variable_taken draft row = variable_in row >>= placed_variable draft

-- ---- variables that are put in order before they are added

-- a draft with these variables
abbrev pub with_variables : Draft → List Variable → Draft
with_variables draft variables = record draft { state = record draft.state { variables = variables } }

-- the variable that a key and a text make
abbrev pub entry_row : List ℕ × List ℕ → Variable
entry_row entry = record { key = entry.0; value = entry.1 }

abbrev pub rows_of : List (List ℕ × List ℕ) → List Variable
rows_of entries = map entry_row entries

-- the variables with each of these, one after another
abbrev pub with_each : List Variable → List Variable → List Variable
with_each variables [] = variables
with_each variables (one ∷ more) = with_each (with_variable variables one) more
