-- What a role and a user of a configuration say: their members in their order, and the first fault decides the reason (this
-- product's own rule).
use Rattle.std.specs.Prelude.{ℕ, List, [], ◌∷◌, ◌++◌, codes, ok_or, Result, Ok, Err}
use Rattle.serde_json.specs.Data.{Data}
use Rattle.hex.specs.Hex.{decode_sized}
use Rattle.hex.specs.declared.error.FromHexError.{FromHexError}
use Rattle.af_names.specs.Names.{account_name_grammar}
use Rattle.af_role.specs.Resources.{action_of, resource_of}
use Rattle.af_role.specs.declared.action.Action.{Action}
use Rattle.af_role.specs.Pairs.{PairRow, pair_of, with_pair}
use Rattle.af_role.specs.Roles.{RoleRow}
use Rattle.af_policy.specs.Rows.{UserRow}
use Rattle.af_server.specs.declared.reason.Reason.{Reason}
use Rattle.af_server.specs.declared.reason.Reason.TheVariants as reason
use Rattle.af_base.specs.Readings.{◌>>=◌, first_fault, taking}
use Rattle.af_server.specs.Members.{list_in, name_in, object_in, text_in}

-- the texts of an action and of a resource, as in `{"action":{"name":..},"resource":{"name":..}}`
abbrev pub texts_in : Data → Result (List ℕ × List ℕ) Reason
texts_in item = do
  action ← object_in (codes "action") item
  action_text ← text_in (codes "name") action
  resource ← object_in (codes "resource") item
  resource_text ← text_in (codes "name") resource
  Ok (action_text, resource_text)

abbrev pub action_in : Data → Result Action Reason
action_in item = texts_in item >>= (λ texts. ok_or (action_of texts.0) reason.Action)

abbrev pub pair_in : Data → Result PairRow Reason
pair_in item = do
  texts ← texts_in item
  action ← ok_or (action_of texts.0) reason.Action
  resource ← ok_or (resource_of texts.1) reason.Pair
  ok_or (pair_of action resource) reason.Pair

-- these permissions with that of an item
abbrev pub pair_taken : List PairRow → Data → Result (List PairRow) Reason
pair_taken permissions item = pair_in item >>= (λ pair. Ok (with_pair permissions pair))

-- the permissions of the items, in the order in which permissions are shown, each once
abbrev pub permissions_in : List Data → Result (List PairRow) Reason
permissions_in items = taking pair_taken [] items

-- a role: its members first, then the first action that is none, then the first pair that may not stand
abbrev pub role_in : Data → Result RoleRow Reason
role_in row = do
  name ← name_in account_name_grammar (codes "name") row
  items ← list_in (codes "actions") row
  texts ← first_fault texts_in items
  actions ← first_fault action_in items
  permissions ← permissions_in items
  Ok (record { name = name; pairs = permissions })

-- 64 hexadecimal digits, in either case
abbrev pub digest_or : Result (List ℕ) FromHexError → Result (List ℕ) Reason
digest_or (Ok digest) = Ok digest
digest_or (Err fault) = Err reason.Shape

abbrev pub digest_of : List ℕ → Result (List ℕ) Reason
digest_of text = digest_or (decode_sized text 32)

-- the name of an item, as in `{"name":..}`
abbrev pub name_text_in : Data → Result (List ℕ) Reason
name_text_in item = text_in (codes "name") item

abbrev pub role_name_in : Data → Result (List ℕ) Reason
role_name_in item = name_in account_name_grammar (codes "name") item

-- these names, and then that of an item
abbrev pub name_taken : List (List ℕ) → Data → Result (List (List ℕ)) Reason
name_taken names item = role_name_in item >>= (λ name. Ok (names ++ name ∷ []))

abbrev pub names_in : List Data → Result (List (List ℕ)) Reason
names_in items = taking name_taken [] items

-- the names of a user's roles: that each is a text is tested before one is read
abbrev pub role_names_in : List Data → Result (List (List ℕ)) Reason
role_names_in items = first_fault name_text_in items >>= (λ texts. names_in items)

abbrev pub user_in : Data → Result UserRow Reason
user_in row = do
  name ← name_in account_name_grammar (codes "username") row
  items ← list_in (codes "roles") row
  roles ← role_names_in items
  text ← text_in (codes "token_sha256") row
  digest ← digest_of text
  Ok (record { name = name; digest = digest; roles = roles })
