-- Access control of a DAG as a JSON object: the names of roles, in byte order, and for each a list of the actions on the DAG, or an object
-- of such lists, for the DAG and for its runs (Airflow 2, "Access Control", DAG-level permissions; which faults are told, and in which
-- order, is this product's own rule).
use Rattle.std.specs.Prelude.{ℕ, nat_eq, codes, List, [], ◌∷◌, ◌++◌, map, Bool, true, false, ◌||◌, is_some, Option, Some, None, ok_or, Result, Ok, Err, ⊤}
use Rattle.std.specs.List.{list_all}
use Rattle.std.specs.Cmp.Lexicographic.{pointwise}
use Rattle.std.specs.Result.{result_ok}
use Rattle.std.specs.Borrow.{Bor}
use Rattle.serde_json.specs.Data.{Data, Members, no_members, member}
use Rattle.serde_json.specs.Find.{as_object, as_str}
use Rattle.af_base.specs.declared.json_value.Json.{Json}
use Rattle.af_base.specs.JsonValue.{view}
use Rattle.af_base.specs.Members.{as_list}
use Rattle.af_base.specs.Readings.{◌>>=◌, first_fault, member_of, taking}
use Rattle.af_names.specs.Names.{account_name_grammar, named}
use Rattle.af_role.specs.declared.access.AccessRow.{AccessRow}
use Rattle.af_role.specs.declared.dag_part.DagPart.{DagPart}
use Rattle.af_role.specs.declared.dag_part.DagPart.TheVariants.{Itself, Runs}

-- a member as code has it: its name and its value, both borrowed
abbrev pub field_of : Bor (List ℕ) × Bor Json → List ℕ × Data
field_of field = (field.0.now, view field.1.now)

-- the members of an object, each once, in byte order of their names
abbrev pub fields_of : Members → List (List ℕ × Data)
fields_of no_members = []
fields_of (member name value rest) = (name, value) ∷ fields_of rest

-- the object that members make, and that the entries of a map make, which stand in order
abbrev pub object_of : List (List ℕ × Data) → Members
object_of [] = no_members
object_of (field ∷ fields) = member field.0 field.1 (object_of fields)

abbrev pub entries_view : List (Bor (List ℕ) × Bor Json) → Members
entries_view entries = object_of (map field_of entries)

abbrev pub is_text : {E : Type 0} → E → Data → Result (List ℕ) E
is_text wrong item = ok_or (as_str item) wrong

abbrev pub text_taken : {E : Type 0} → E → List (List ℕ) → Data → Result (List (List ℕ)) E
text_taken wrong texts item = is_text wrong item >>= (λ text. Ok (texts ++ text ∷ []))

-- a list, each of whose items is a text
abbrev pub texts_in : {E : Type 0} → E → Data → Result (List (List ℕ)) E
texts_in wrong value = ok_or (as_list value) wrong >>= taking (text_taken wrong) []

-- ---- the value of a role

-- the member of the object form for the DAG itself, and for its runs
abbrev pub part_name : DagPart → List ℕ
part_name Itself = codes "DAGs"
part_name Runs = codes "DAG Runs"

-- the name of a member is one of the two
abbrev pub is_part_name : List ℕ → Bool
is_part_name name = pointwise nat_eq (part_name Itself) name || pointwise nat_eq (part_name Runs) name

abbrev pub are_parts : Members → Bool
are_parts members = list_all (λ field. is_part_name field.0) (fields_of members)

-- whether a value is a list of texts
abbrev pub texts_tested : {E : Type 0} → E → Data → Result ⊤ E
texts_tested wrong value = ok_or (as_list value) wrong >>= first_fault (is_text wrong)

-- whether a member, if it is there, is a list of texts; one that is null counts as absent
abbrev pub member_tested : {E : Type 0} → E → Option Data → Result ⊤ E
member_tested wrong None = Ok tt
member_tested wrong (Some value) = texts_tested wrong value

-- whether an object has members of the two names alone, each a list of texts
abbrev pub parts_tested : {E : Type 0} → E → Data → Bool → Result ⊤ E
parts_tested wrong value false = Err wrong
parts_tested wrong value true = do
  dags ← member_tested wrong (member_of (part_name Itself) value)
  member_tested wrong (member_of (part_name Runs) value)

abbrev pub object_tested : {E : Type 0} → E → Data → Option Members → Result ⊤ E
object_tested wrong value None = Err wrong
object_tested wrong value (Some members) = parts_tested wrong value (are_parts members)

abbrev pub value_by : {E : Type 0} → E → Data → Option (List Data) → Result ⊤ E
value_by wrong value (Some items) = first_fault (is_text wrong) items
value_by wrong value None = object_tested wrong value (as_object value)

-- whether a value is a list of texts, or such an object
abbrev pub value_tested : {E : Type 0} → E → Data → Result ⊤ E
value_tested wrong value = value_by wrong value (as_list value)

-- a list is for the DAG itself alone
abbrev pub list_for : {E : Type 0} → E → DagPart → Data → Result (List (List ℕ)) E
list_for wrong Itself value = texts_in wrong value
list_for wrong Runs value = Ok []

-- the texts of a member, none if it is absent or null
abbrev pub member_texts : {E : Type 0} → E → Option Data → Result (List (List ℕ)) E
member_texts wrong None = Ok []
member_texts wrong (Some value) = texts_in wrong value

abbrev pub part_by : {E : Type 0} → E → DagPart → Data → Bool → Result (List (List ℕ)) E
part_by wrong part value true = list_for wrong part value
part_by wrong part value false = member_texts wrong (member_of (part_name part) value)

-- the texts that a value has for the DAG itself, or for its runs
abbrev pub part_in : {E : Type 0} → E → DagPart → Data → Result (List (List ℕ)) E
part_in wrong part value = part_by wrong part value (is_some (as_list value))

-- ---- the roles

abbrev pub field_tested : {E : Type 0} → E → List ℕ × Data → Result ⊤ E
field_tested wrong field = value_tested wrong field.1

abbrev pub row_in : {E : Type 0} → E → E → List ℕ × Data → Result AccessRow E
row_in wrong misnamed field = do
  role ← ok_or (result_ok (named account_name_grammar field.0)) misnamed
  actions ← part_in wrong Itself field.1
  runs ← part_in wrong Runs field.1
  Ok (record { role = role; actions = actions; runs = runs })

abbrev pub row_taken : {E : Type 0} → E → E → List AccessRow → List ℕ × Data → Result (List AccessRow) E
row_taken wrong misnamed rows field = row_in wrong misnamed field >>= (λ row. Ok (rows ++ row ∷ []))

-- Which roles are to have which actions: that each value is a list of texts, or an object of such lists, is tested before a name is read.
abbrev pub access_in : {E : Type 0} → E → E → Data → Result (List AccessRow) E
access_in wrong misnamed value = do
  members ← ok_or (as_object value) wrong
  each ← first_fault (field_tested wrong) (fields_of members)
  taking (row_taken wrong misnamed) [] (fields_of members)
