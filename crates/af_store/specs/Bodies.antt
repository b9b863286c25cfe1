-- The body of a line: an object whose members stand in byte order of their names, and its text without a space (RFC 8259, section 4;
-- the order is this product's own rule, by which what a line says has one text).
use Rattle.std.specs.Prelude.{ℕ, List, [], ◌∷◌, map, codes, nat_eq, Bool, Option, Some, None}
use Rattle.std.specs.Cmp.Lexicographic.{pointwise}
use Rattle.serde_json.specs.Data.{Data, null, array, string, object, Members, no_members, member}
use Rattle.serde_json.specs.View.{items_of}
use Rattle.serde_json.specs.Written.{compact_text}

-- a member: its name and its value
abbrev pub Field : Type 0
Field = List ℕ × Data

abbrev pub members_from : List Field → Members
members_from [] = no_members
members_from (field ∷ fields) = member field.0 field.1 (members_from fields)

-- the object of these members, in their order
abbrev pub object_of : List Field → Data
object_of fields = object (members_from fields)

-- the text of the object of these members
abbrev pub body_of : List Field → List ℕ
body_of fields = compact_text (object_of fields)

-- a list, each item as it is told
abbrev pub list_of : {X : Type 0} → (X → Data) → List X → Data
list_of told xs = array (items_of (map told xs))

-- a value as it is told, or null for none
abbrev pub or_null : {X : Type 0} → (X → Data) → Option X → Data
or_null told None = null
or_null told (Some x) = told x

-- `{"name":..}`, as the API names roles, actions and resources
abbrev pub name_object : List ℕ → Data
name_object name = object_of ((codes "name", string name) ∷ [])

abbrev pub same_text : List ℕ → List ℕ → Bool
same_text = pointwise nat_eq
