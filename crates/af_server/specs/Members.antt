-- Members of a row of the configuration: the reason of one that is absent though it has to be there, of another kind, or
-- outside its limits (this product's own rule).
use Rattle.std.specs.Prelude.{ℕ, ℤ, pos, negsuc, int_le, List, [], Bool, ◌&&◌, nat_le, if◌then◌else◌, Option, Some, None, unwrap_or, Result, Ok, Err}
use Rattle.serde_json.specs.Data.{Num, unsigned, negative, float, Data}
use Rattle.serde_json.specs.Find.{as_bool, as_number, as_str}
use Rattle.af_names.specs.declared.name_error.NameError.{NameError}
use Rattle.af_names.specs.Names.{Grammar, named}
use Rattle.af_base.specs.Members.{as_list, as_whole_object}
use Rattle.af_base.specs.Readings.{◌>>=◌, member_of, optional, required, seen}
use Rattle.af_server.specs.declared.reason.Reason.{Reason}
use Rattle.af_server.specs.declared.reason.Reason.TheVariants.{Shape, Limit}
use Rattle.af_server.specs.Reasons.{name_reason}

-- what is read of a member, or this where it is absent
abbrev pub or_default : {X : Type 0} → X → Result (Option X) Reason → Result X Reason
or_default default read = seen (λ value. unwrap_or value default) read

-- the text of a member that has to be there
abbrev pub text_in : List ℕ → Data → Result (List ℕ) Reason
text_in name row = required as_str Shape (member_of name row)

-- the object of a member that has to be there
abbrev pub object_in : List ℕ → Data → Result Data Reason
object_in name row = required as_whole_object Shape (member_of name row)

-- the values of a list that has to be there
abbrev pub list_in : List ℕ → Data → Result (List Data) Reason
list_in name row = required as_list Shape (member_of name row)

-- the values of a list, none where it is absent
abbrev pub optional_list_in : List ℕ → Data → Result (List Data) Reason
optional_list_in name row = or_default [] (optional as_list Shape (member_of name row))

-- a truth value, or this one where it is absent
abbrev pub truth_in : List ℕ → Bool → Data → Result Bool Reason
truth_in name default row = or_default default (optional as_bool Shape (member_of name row))

-- an integer that may not be below 0, within these limits; one that is no integer of 64 bits is of a wrong kind
abbrev pub within : ℕ → ℕ → Option Num → Result ℕ Reason
within least most (Some (unsigned n)) = if nat_le least n && nat_le n most then Ok n else Err Limit
within least most (Some (negative z)) = Err Limit
within least most (Some (float x)) = Err Shape
within least most None = Err Shape

abbrev pub number_or : ℕ → ℕ → Result ℕ Reason → Option Data → Result ℕ Reason
number_or least most absent None = absent
number_or least most absent (Some value) = within least most (as_number value)

-- an integer within these limits, or this one where it is absent
abbrev pub number_in : List ℕ → ℕ → ℕ → ℕ → Data → Result ℕ Reason
number_in name least most default row = number_or least most (Ok default) (member_of name row)

-- an integer within these limits, which has to be there
abbrev pub required_number_in : List ℕ → ℕ → ℕ → Data → Result ℕ Reason
required_number_in name least most row = number_or least most (Err Shape) (member_of name row)

-- a signed integer of 32 bits
abbrev pub fitting : ℤ → Result ℤ Reason
fitting z = if int_le (negsuc 2_147_483_647) z && int_le z (pos 2_147_483_647) then Ok z else Err Limit

-- an integer of 32 bits, which may be below 0; one that is no integer of 64 bits is of a wrong kind
abbrev pub signed_of : Option Num → Result ℤ Reason
signed_of None = Err Shape
signed_of (Some (unsigned n)) = fitting (pos n)
signed_of (Some (negative z)) = fitting z
signed_of (Some (float x)) = Err Shape

abbrev pub signed_or : ℤ → Option Data → Result ℤ Reason
signed_or default None = Ok default
signed_or default (Some value) = signed_of (as_number value)

abbrev pub signed_in : List ℕ → ℤ → Data → Result ℤ Reason
signed_in name default row = signed_or default (member_of name row)

-- the name that a text is
abbrev pub name_or : Result (List ℕ) NameError → Result (List ℕ) Reason
name_or (Ok name) = Ok name
name_or (Err fault) = Err (name_reason fault)

abbrev pub name_of : Grammar → List ℕ → Result (List ℕ) Reason
name_of grammar text = name_or (named grammar text)

abbrev pub name_in : Grammar → List ℕ → Data → Result (List ℕ) Reason
name_in grammar member row = text_in member row >>= name_of grammar
