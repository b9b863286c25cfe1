-- The data that a JSON value over borrowed text stands for.
use Rattle.std.specs.Prelude.{List, [], ◌∷◌, map}
use Rattle.std.specs.Prelude as prelude
use Rattle.std.specs.Borrow.{Bor}
use Rattle.serde_json.specs.Data.{Num, unsigned, negative, float, Data, null, boolean, number, string, array, object, Members, no_members, put}
use Rattle.serde_json.specs.View.{items_of}
use Rattle.af_base.specs.declared.json_value.number.Numeric.{Numeric}
use Rattle.af_base.specs.declared.json_value.number.Numeric.TheVariants.{Unsigned, Negative, Float}
use Rattle.af_base.specs.declared.json_value.Json.{Json, fold-Json}
use Rattle.af_base.specs.declared.json_value.Json.TheOpen.{Json-F}

abbrev pub number_view : Numeric → Num
number_view (Unsigned n) = unsigned n
number_view (Negative z) = negative z
number_view (Float x) = float x

-- Members go in one after another, so the last value of a name stays.
abbrev pub put_all : List (Bor (List prelude.ℕ) × Data) → Members → Members
put_all [] members = members
put_all (m ∷ ms) members = put_all ms (put m.0.now m.1 members)

-- one level, with each value inside already seen as its data
abbrev pub view_step : Json-F Data → Data
view_step Json-F.Null = null
view_step (Json-F.Bool b) = boolean b
view_step (Json-F.Number n) = number (number_view n)
view_step (Json-F.String s) = string s.now
view_step (Json-F.Array v) = array (items_of v.items)
view_step (Json-F.Object v) = object (put_all v.items no_members)

abbrev pub view : Json → Data
view = fold-Json Data view_step

abbrev pub seen_members : List (Bor (List prelude.ℕ) × Json) → List (Bor (List prelude.ℕ) × Data)
seen_members = map (λ m. (m.0, view m.1))

-- the object that these members make
abbrev pub members_view : List (Bor (List prelude.ℕ) × Json) → Members
members_view ms = put_all (seen_members ms) no_members
