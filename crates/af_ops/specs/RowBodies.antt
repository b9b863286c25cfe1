-- The bodies of requests on pools and variables.
use Rattle.std.specs.Prelude.{ℕ, List, Option, Some, None, nat_le, option_and_then, Result, Ok, if◌then◌else◌}
use Rattle.std.specs.Result.{result_ok}
use Rattle.serde_json.specs.Data.{Data}
use Rattle.serde_json.specs.Find.{as_number, as_str, as_u64}
use Rattle.af_base.specs.Readings.{◌>>=◌}
use Rattle.af_graph.specs.Limits.{most_slots}
use Rattle.af_names.specs.Names.{Grammar, named, row_name_grammar}
use Rattle.af_pool.specs.declared.pool.Pool.{Pool}
use Rattle.af_vars.specs.declared.variable.Variable.{Variable}
use Rattle.af_ops.specs.declared.body_fault.BodyFault.{BodyFault}
use Rattle.af_ops.specs.declared.body_fault.Member.TheVariants.{Name, Slots, Key, Value}
use Rattle.af_ops.specs.Bodies.{body_in, required_in}

-- ---- kinds of value

-- a name of a kind: that of a pool, or the key of a variable
abbrev pub name_value : Grammar → Data → Option (List ℕ)
name_value grammar value = option_and_then (λ text. result_ok (named grammar text)) (as_str value)

-- no more slots than a pool may have
abbrev pub few_slots : ℕ → Option ℕ
few_slots slots = if nat_le slots most_slots then Some slots else None

abbrev pub slots_value : Data → Option ℕ
slots_value value = option_and_then few_slots (option_and_then as_u64 (as_number value))

-- ---- bodies

-- a pool that is to be added
abbrev pub pool_in : List ℕ → Result Pool BodyFault
pool_in bytes = do
  body ← body_in bytes
  name ← required_in (name_value row_name_grammar) Name body
  slots ← required_in slots_value Slots body
  Ok (record { name = name; slots = slots })

-- the slots that a pool is to have
abbrev pub slots_in : List ℕ → Result ℕ BodyFault
slots_in bytes = do
  body ← body_in bytes
  required_in slots_value Slots body

-- a variable that is to be added
abbrev pub variable_in : List ℕ → Result Variable BodyFault
variable_in bytes = do
  body ← body_in bytes
  key ← required_in (name_value row_name_grammar) Key body
  value ← required_in as_str Value body
  Ok (record { key = key; value = value })

-- the text that a variable is to hold
abbrev pub value_in : List ℕ → Result (List ℕ) BodyFault
value_in bytes = do
  body ← body_in bytes
  required_in as_str Value body
