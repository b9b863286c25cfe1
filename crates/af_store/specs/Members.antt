-- What is read of the members of a line's body: one that is absent though it has to be there, or of a wrong kind or value, makes it no
-- line (this product's own rule). Null counts as absent.
use Rattle.std.specs.Prelude.{ℕ, List, [], ◌∷◌, ◌++◌, Bool, nat_le, if◌then◌else◌, Option, Some, None, option_and_then, ok_or, Result, Ok, Err}
use Rattle.std.specs.Result.{result_ok}
use Rattle.hex.specs.Hex.{decode_sized}
use Rattle.serde_json.specs.Data.{Data}
use Rattle.serde_json.specs.Find.{as_bool, as_number, as_str, as_u64}
use Rattle.serde_json.specs.Read.{read}
use Rattle.af_names.specs.Instants.{last_micros}
use Rattle.af_names.specs.Names.{Grammar, named}
use Rattle.af_base.specs.Members.{as_list}
use Rattle.af_base.specs.Readings.{◌>>=◌, member_of, taking}
use Rattle.af_store.specs.Bodies.{same_text}
use Rattle.af_store.specs.declared.line_fault.LineFault.{LineFault}
use Rattle.af_store.specs.declared.line_fault.LineFault.TheVariants.{NotALine}

-- the value of which a body is the text
abbrev pub row_in : List ℕ → Result Data LineFault
row_in body = ok_or (read body) NotALine

-- what a body says, if it is just the text by which that is told: any other text of the same value is no line, so none with a member more, one
-- that comes twice, another order, or a space
abbrev pub told_as : {X : Type 0} → (X → List ℕ) → List ℕ → X → Result X LineFault
told_as tell body x = if same_text (tell x) body then Ok x else Err NotALine

-- ---- kinds of value

abbrev pub text_value : Data → Result (List ℕ) LineFault
text_value value = ok_or (as_str value) NotALine

abbrev pub truth_value : Data → Result Bool LineFault
truth_value value = ok_or (as_bool value) NotALine

-- an integer of 64 bits that is not below 0
abbrev pub count_value : Data → Result ℕ LineFault
count_value value = ok_or (option_and_then as_u64 (as_number value)) NotALine

abbrev pub short_or : ℕ → Result ℕ LineFault
short_or count = if nat_le count 4_294_967_295 then Ok count else Err NotALine

-- an integer of 32 bits that is not below 0
abbrev pub short_value : Data → Result ℕ LineFault
short_value value = count_value value >>= short_or

abbrev pub instant_or : ℕ → Result ℕ LineFault
instant_or micros = if nat_le micros last_micros then Ok micros else Err NotALine

-- an instant, in microseconds since 1970-01-01T00:00:00Z
abbrev pub instant_value : Data → Result ℕ LineFault
instant_value value = count_value value >>= instant_or

-- the name that a text is
abbrev pub name_of : Grammar → List ℕ → Result (List ℕ) LineFault
name_of grammar text = ok_or (result_ok (named grammar text)) NotALine

abbrev pub name_value : Grammar → Data → Result (List ℕ) LineFault
name_value grammar value = text_value value >>= name_of grammar

-- the 32 bytes of a digest that hexadecimal digits write
abbrev pub digest_of : List ℕ → Result (List ℕ) LineFault
digest_of text = ok_or (result_ok (decode_sized text 32)) NotALine

abbrev pub digest_value : Data → Result (List ℕ) LineFault
digest_value value = text_value value >>= digest_of

-- one item more
abbrev pub taken : {X : Type 0} → (Data → Result X LineFault) → List X → Data → Result (List X) LineFault
taken read_item items value = read_item value >>= (λ item. Ok (items ++ item ∷ []))

-- a list, each of whose items is read
abbrev pub list_value : {X : Type 0} → (Data → Result X LineFault) → Data → Result (List X) LineFault
list_value read_item value = ok_or (as_list value) NotALine >>= taking (taken read_item) []

-- ---- members

abbrev pub required_in : {X : Type 0} → (Data → Result X LineFault) → List ℕ → Data → Result X LineFault
required_in read_value name row = ok_or (member_of name row) NotALine >>= read_value

abbrev pub maybe : {X : Type 0} → (Data → Result X LineFault) → Option Data → Result (Option X) LineFault
maybe read_value None = Ok None
maybe read_value (Some value) = read_value value >>= (λ x. Ok (Some x))

abbrev pub optional_in : {X : Type 0} → (Data → Result X LineFault) → List ℕ → Data → Result (Option X) LineFault
optional_in read_value name row = maybe read_value (member_of name row)
