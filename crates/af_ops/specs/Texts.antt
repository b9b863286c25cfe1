-- What a text gains, for clauses of its writers.
use Rattle.std.specs.Prelude.{◌≡◌, ◌≤◌, ℕ, List, [], ◌∷◌, ◌++◌, Bool, true, ◌&&◌, nat_le, length}
use Rattle.std.specs.List.{list_all}
use Rattle.json.specs.Run.{is_plain}
use Rattle.json.specs.Print.{quoted}
use Rattle.serde_json.specs.Written.{comma_if, compact_text}
use Rattle.af_ops.specs.Fields.{Field}

-- the bytes of a text, and for how many more there is room
pub record Filling : Type 0 where
  pub items : List ℕ
  pub ready : ℕ

-- a short name, no byte of which wants an escape
abbrev pub is_name : List ℕ → Bool
is_name name = nat_le (length name) 64 && list_all is_plain name

-- a member, with the comma before it
abbrev pub member_text : Bool → List ℕ → List ℕ → List ℕ
member_text later name value = comma_if later ++ (quoted name ++ 58 ∷ value)

-- some members of an object, the comma before each but the first of all
unfoldable pub front : Bool → List Field → List ℕ
front later [] = []
front later (field ∷ fields) = member_text later field.0 (compact_text field.1) ++ front true fields

-- these members were written, and there is room for what follows a member
pub record Adds (later : Bool) (old new : Filling) (fields : List Field) : Type 0 where
  pub text : new.items ≡ old.items ++ front later fields
  pub room : 8 ≤ new.ready
