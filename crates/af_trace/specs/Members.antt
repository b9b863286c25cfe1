-- Members of a trace, of its steps and of its answers: where one is absent though it has to be there, or of a wrong kind or value, there
-- is no trace (this product's own rule). Null counts as absent.
use Rattle.std.specs.Prelude.{ℕ, List, Option, Some, codes, option_and_then, Result}
use Rattle.std.specs.Result.{result_ok}
use Rattle.serde_json.specs.Data.{Data}
use Rattle.serde_json.specs.Find.{as_number, as_str, as_u64}
use Rattle.af_names.specs.Instants.{instant_of}
use Rattle.af_names.specs.Names.{id_grammar, named}
use Rattle.af_base.specs.Readings.{member_of, optional, required}
use Rattle.af_trace.specs.declared.trace_fault.TraceFault.{TraceFault}
use Rattle.af_trace.specs.declared.trace_fault.TraceFault.TheVariants.{Form}

-- a member of any kind that has to be there
abbrev pub value_in : List ℕ → Data → Result Data TraceFault
value_in name row = required (λ value. Some value) Form (member_of name row)

-- a text that has to be there
abbrev pub text_in : List ℕ → Data → Result (List ℕ) TraceFault
text_in name row = required as_str Form (member_of name row)

-- an integer of 64 bits that is not below 0
abbrev pub count_of : Data → Option ℕ
count_of value = option_and_then as_u64 (as_number value)

-- such an integer, which has to be there
abbrev pub count_in : List ℕ → Data → Result ℕ TraceFault
count_in name row = required count_of Form (member_of name row)

-- such an integer, which may be absent
abbrev pub optional_count_in : List ℕ → Data → Result (Option ℕ) TraceFault
optional_count_in name row = optional count_of Form (member_of name row)

-- the instant that a text states
abbrev pub instant_value : Data → Option ℕ
instant_value value = option_and_then (λ text. result_ok (instant_of text)) (as_str value)

abbrev pub instant_in : List ℕ → Data → Result ℕ TraceFault
instant_in name row = required instant_value Form (member_of name row)

-- the id of a task
abbrev pub task_id_value : Data → Option (List ℕ)
task_id_value value = option_and_then (λ text. result_ok (named id_grammar text)) (as_str value)

abbrev pub task_id_in : List ℕ → Data → Result (List ℕ) TraceFault
task_id_in name row = required task_id_value Form (member_of name row)

-- the token of a request, or none
abbrev pub token_in : Data → Result (Option (List ℕ)) TraceFault
token_in row = optional as_str Form (member_of (codes "token") row)
