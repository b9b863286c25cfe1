-- Kinds of value that a member of a JSON object has (RFC 8259, section 3).
use Rattle.std.specs.Prelude.{List, [], ◌∷◌, is_some, if◌then◌else◌, Option, Some, None, option_map}
use Rattle.serde_json.specs.Data.{Data, Items, no_items, item}
use Rattle.serde_json.specs.Find.{as_array, as_object}

abbrev pub values_of : Items → List Data
values_of no_items = []
values_of (item value values) = value ∷ values_of values

-- the values of a list
abbrev pub as_list : Data → Option (List Data)
as_list value = option_map values_of (as_array value)

-- a value that is an object
abbrev pub as_whole_object : Data → Option Data
as_whole_object value = if is_some (as_object value) then Some value else None
