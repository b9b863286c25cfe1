-- The bodies of changes of the policy, read whole before any fault of the change itself is looked for.
use Rattle.std.specs.Prelude.{ℕ, List, [], ◌∷◌, ◌++◌, is_some, if◌then◌else◌, Option, Some, None, option_and_then, ok_or, Result, Ok, Err, codes}
use Rattle.std.specs.Result.{result_ok}
use Rattle.hex.specs.Hex.{decode_sized}
use Rattle.serde_json.specs.Data.{Data}
use Rattle.serde_json.specs.Find.{as_object, as_str}
use Rattle.af_base.specs.Members.{as_list, as_whole_object}
use Rattle.af_base.specs.Parsed.{json_of}
use Rattle.af_base.specs.Readings.{◌>>=◌, member_of, optional, required, taking}
use Rattle.af_names.specs.Names.{account_name_grammar}
use Rattle.af_role.specs.declared.access.AccessRow.{AccessRow}
use Rattle.af_role.specs.declared.pair_text.PairText.{PairText}
use Rattle.af_policy.specs.Inputs.{member_text}
use Rattle.af_policy.specs.Rows.{UserRow}
use Rattle.af_policy.specs.declared.ask.Ask.TheVariants.{Made, Bad}
use Rattle.af_policy.specs.declared.bad_input.BadInput.TheVariants as bad
use Rattle.af_policy.specs.declared.bad_input.Member.{Member}
use Rattle.af_policy.specs.declared.bad_input.Member.TheVariants.{Name, Actions, Username, Roles, TokenSha256, AccessControl}
use Rattle.af_policy.specs.declared.change.Change.{Change}
use Rattle.af_policy.specs.declared.change.Change.TheVariants as change
use Rattle.af_policy.specs.declared.change.DagAccess.{DagAccess}
use Rattle.af_policy.specs.declared.change.RoleInput.{RoleInput}
use Rattle.af_policy.specs.declared.change.UserPatch.{UserPatch}
use Rattle.af_policy.specs.declared.change_kind.ChangeKind.{ChangeKind}
use Rattle.af_policy.specs.declared.change_kind.ChangeKind.TheVariants as kind
use Rattle.af_ops.specs.declared.input_fault.InputFault.{InputFault}
use Rattle.af_ops.specs.declared.input_fault.InputFault.TheVariants as fault
use Rattle.af_ops.specs.declared.policy_op.PolicyOp.{PolicyOp}
use Rattle.af_ops.specs.declared.policy_op.PolicyOp.TheVariants as policy_op
use Rattle.af_ops.specs.AccessTexts.{access_in}
use Rattle.af_ops.specs.RowBodies.{name_value}

abbrev pub object_or : Data → Result Data InputFault
object_or value = if is_some (as_object value) then Ok value else Err (fault.Bad bad.Body)

-- the object that a body is
abbrev pub body_in : List ℕ → Result Data InputFault
body_in bytes = ok_or (json_of bytes) (fault.Bad bad.Body) >>= object_or

-- a member is absent though it has to be there, or of a wrong kind or value
abbrev pub wrong : Member → InputFault
wrong it = fault.Bad (bad.Member it)

abbrev pub required_in : {X : Type 0} → (Data → Option X) → Member → Data → Result X InputFault
required_in read it body = required read (wrong it) (member_of (member_text it) body)

abbrev pub optional_in : {X : Type 0} → (Data → Option X) → Member → Data → Result (Option X) InputFault
optional_in read it body = optional read (wrong it) (member_of (member_text it) body)

-- ---- kinds of value

-- the text of the name of a member, as in `{"name":..}`
abbrev pub name_text_in : List ℕ → Data → Result (List ℕ) InputFault
name_text_in it item = do
  object ← required as_whole_object (wrong Actions) (member_of it item)
  required as_str (wrong Actions) (member_of (codes "name") object)

-- the texts of an action and of a resource, as in `{"action":{"name":..},"resource":{"name":..}}`
abbrev pub pair_text_in : Data → Result PairText InputFault
pair_text_in item = do
  action ← name_text_in (codes "action") item
  resource ← name_text_in (codes "resource") item
  Ok (record { action = action; resource = resource })

abbrev pub pair_text_taken : List PairText → Data → Result (List PairText) InputFault
pair_text_taken texts item = pair_text_in item >>= (λ text. Ok (texts ++ text ∷ []))

-- the permissions of a role, as they are given
abbrev pub actions_in : Data → Result (List PairText) InputFault
actions_in body = required_in as_list Actions body >>= taking pair_text_taken []

-- the name of a role, as in `{"name":..}`
abbrev pub role_name_in : Data → Result (List ℕ) InputFault
role_name_in item = required (name_value account_name_grammar) (wrong Roles) (member_of (codes "name") item)

abbrev pub role_name_taken : List (List ℕ) → Data → Result (List (List ℕ)) InputFault
role_name_taken names item = role_name_in item >>= (λ name. Ok (names ++ name ∷ []))

abbrev pub role_names_in : List Data → Result (List (List ℕ)) InputFault
role_names_in items = taking role_name_taken [] items

-- the roles of a user, in the order in which they are given
abbrev pub roles_in : Data → Result (List (List ℕ)) InputFault
roles_in body = required_in as_list Roles body >>= role_names_in

abbrev pub roles_or : Option Data → Result (Option (List (List ℕ))) InputFault
roles_or None = Ok None
roles_or (Some value) = do
  items ← ok_or (as_list value) (wrong Roles)
  names ← role_names_in items
  Ok (Some names)

-- the same, where they are there
abbrev pub optional_roles_in : Data → Result (Option (List (List ℕ))) InputFault
optional_roles_in body = roles_or (member_of (member_text Roles) body)

-- 64 hexadecimal digits, in either case
abbrev pub digest_value : Data → Option (List ℕ)
digest_value value = option_and_then (λ text. result_ok (decode_sized text 32)) (as_str value)

abbrev pub access_or : Option Data → Result (Option (List AccessRow)) InputFault
access_or None = Ok None
access_or (Some value) = access_in (wrong AccessControl) (wrong AccessControl) value >>= (λ rows. Ok (Some rows))

-- ---- bodies

-- a role that is to be added
abbrev pub role_in : List ℕ → Result RoleInput InputFault
role_in bytes = do
  body ← body_in bytes
  name ← required_in (name_value account_name_grammar) Name body
  actions ← actions_in body
  Ok (record { name = name; actions = actions })

-- what a role of this name is to list
abbrev pub role_set_in : List ℕ → List ℕ → Result RoleInput InputFault
role_set_in name bytes = do
  body ← body_in bytes
  actions ← actions_in body
  Ok (record { name = name; actions = actions })

-- a user who is to be added
abbrev pub user_in : List ℕ → Result UserRow InputFault
user_in bytes = do
  body ← body_in bytes
  name ← required_in (name_value account_name_grammar) Username body
  roles ← roles_in body
  digest ← required_in digest_value TokenSha256 body
  Ok (record { name = name; digest = digest; roles = roles })

-- what is to be another of the user of this name
abbrev pub patch_in : List ℕ → List ℕ → Result UserPatch InputFault
patch_in name bytes = do
  body ← body_in bytes
  roles ← optional_roles_in body
  digest ← optional_in digest_value TokenSha256 body
  Ok (record { name = name; digest = digest; roles = roles })

-- the access control that this DAG is to have, if the body gives one
abbrev pub dag_access_in : List ℕ → List ℕ → Result DagAccess InputFault
dag_access_in dag_id bytes = do
  body ← body_in bytes
  access ← access_or (member_of (member_text AccessControl) body)
  Ok (record { dag = dag_id; access = access })

-- ---- what is asked for

-- a change whose body is none of its kind, or was not read
abbrev pub not_read : ChangeKind → InputFault → PolicyOp
not_read kind (fault.Bad input) = policy_op.Change (Bad kind input)
not_read kind fault.OutOfMemory = policy_op.Unread kind

-- a change by what was read of its body
abbrev pub asked : {X : Type 0} → ChangeKind → (X → Change) → Result X InputFault → PolicyOp
asked kind change (Ok input) = policy_op.Change (Made (change input))
asked kind change (Err why) = not_read kind why

abbrev pub role_added : List ℕ → PolicyOp
role_added body = asked kind.AddRole change.AddRole (role_in body)

abbrev pub role_changed : List ℕ → List ℕ → PolicyOp
role_changed name body = asked kind.SetRole change.SetRole (role_set_in name body)

abbrev pub user_added : List ℕ → PolicyOp
user_added body = asked kind.AddUser change.AddUser (user_in body)

abbrev pub user_changed : List ℕ → List ℕ → PolicyOp
user_changed name body = asked kind.SetUser change.SetUser (patch_in name body)

abbrev pub sync_asked : List ℕ → List ℕ → PolicyOp
sync_asked dag_id body = asked kind.SyncDag change.SyncDag (dag_access_in dag_id body)
