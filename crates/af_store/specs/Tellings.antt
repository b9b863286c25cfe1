-- What the members of a line's body are told as.
use Rattle.std.specs.Prelude.{ℕ, List, [], ◌∷◌, ◌++◌}
use Rattle.std.specs.Borrow.{Bor}
use Rattle.json.specs.Token.{Token}
use Rattle.json.specs.Tree.{json_tokens}
use Rattle.serde_json.specs.Data.{Data, null, boolean, number, unsigned, string}
use Rattle.serde_json.specs.Written.{outline}
use Rattle.af_store.specs.Bodies.{Field, list_of}
use Rattle.af_store.specs.ChangeLines.{access_told, digest_told, pair_told, roles_told}
use Rattle.af_store.specs.EntryLines.{ids_told, user_object}
use Rattle.af_store.specs.declared.told.Told.{Told}
use Rattle.af_store.specs.declared.told.Told.TheVariants.{Null, Text, Truth, Count, Digest, User, Roles, Tasks, Pairs, Access}

abbrev pub told_data : Told → Data
told_data Null = null
told_data (Text text) = string text.now
told_data (Truth truth) = boolean truth
told_data (Count count) = number (unsigned count)
told_data (Digest digest) = digest_told digest
told_data (User name) = user_object name.now
told_data (Roles names) = roles_told names.now
told_data (Tasks ids) = ids_told ids.now
told_data (Pairs pairs) = list_of pair_told pairs.now
told_data (Access rows) = list_of access_told rows.now

abbrev pub field_of : Bor (List ℕ) × Told → Field
field_of member = (member.0.now, told_data member.1)

-- the tokens of members
abbrev pub fields_tokens : List Field → List Token
fields_tokens [] = []
fields_tokens (field ∷ fields) = Token.key field.0 ∷ (json_tokens (outline field.1) ++ fields_tokens fields)
