-- Lines that tell changes of the policy: by whom, and what, by event, names and input; members are named as the API names them (Airflow 2,
-- "Stable REST API", roles and users; the names of the events, and what is told of access control, are this product's own rule). What is told of
-- a token is its SHA-256, never the token.
use Rattle.std.specs.Prelude.{ℕ, List, [], ◌∷◌, codes, ⊤}
use Rattle.hex.specs.Hex.{encode_lower}
use Rattle.serde_json.specs.Data.{Data, string}
use Rattle.af_names.specs.Names.{account_name_grammar, id_grammar}
use Rattle.af_role.specs.declared.access.AccessRow.{AccessRow}
use Rattle.af_role.specs.declared.pair_text.PairText.{PairText}
use Rattle.af_policy.specs.Rows.{UserRow}
use Rattle.af_policy.specs.declared.change.Change.{Change}
use Rattle.af_policy.specs.declared.change.Change.TheVariants.{AddRole, SetRole, DropRole, AddUser, SetUser, DropUser, SyncDag}
use Rattle.af_policy.specs.declared.change.DagAccess.{DagAccess}
use Rattle.af_policy.specs.declared.change.RoleInput.{RoleInput}
use Rattle.af_policy.specs.declared.change.UserPatch.{UserPatch}
use Rattle.af_policy.specs.declared.change_kind.ChangeKind.{ChangeKind}
use Rattle.af_policy.specs.declared.change_kind.ChangeKind.TheVariants as kind
use Rattle.af_store.specs.Bodies.{Field, body_of, list_of, name_object, object_of, or_null}
use Rattle.af_store.specs.Names.{AreNames, IfThere, IsDigest, IsName}
use Rattle.af_store.specs.declared.change_line.ChangeLine.{ChangeLine}

-- ---- what is told

-- the event of a change
abbrev pub event_of : ChangeKind → List ℕ
event_of kind.AddRole = codes "add_role"
event_of kind.SetRole = codes "set_role"
event_of kind.DropRole = codes "drop_role"
event_of kind.AddUser = codes "add_user"
event_of kind.SetUser = codes "set_user"
event_of kind.DropUser = codes "drop_user"
event_of kind.SyncDag = codes "sync_dag"

-- a permission as the API writes it
abbrev pub pair_told : PairText → Data
pair_told pair =
    object_of ((codes "action", name_object pair.action) ∷ (codes "resource", name_object pair.resource) ∷ [])

abbrev pub texts_told : List (List ℕ) → Data
texts_told texts = list_of string texts

-- which actions a role is to have on the runs of a DAG and on the DAG itself, under the resources' names
abbrev pub access_told : AccessRow → Data
access_told row =
    object_of ((codes "DAG Runs", texts_told row.runs) ∷ (codes "DAGs", texts_told row.actions) ∷ (codes "role", string row.role) ∷ [])

abbrev pub digest_told : List ℕ → Data
digest_told digest = string (encode_lower digest)

abbrev pub roles_told : List (List ℕ) → Data
roles_told names = list_of name_object names

abbrev pub role_fields : List ℕ → ChangeKind → RoleInput → List Field
role_fields by it input =
    (codes "actions", list_of pair_told input.actions) ∷ (codes "by", string by) ∷ (codes "event", string (event_of it))
    ∷ (codes "name", string input.name) ∷ []

abbrev pub role_dropped_fields : List ℕ → List ℕ → List Field
role_dropped_fields by name =
    (codes "by", string by) ∷ (codes "event", string (event_of kind.DropRole)) ∷ (codes "name", string name) ∷ []

abbrev pub user_fields : List ℕ → UserRow → List Field
user_fields by user =
    (codes "by", string by) ∷ (codes "event", string (event_of kind.AddUser)) ∷ (codes "roles", roles_told user.roles)
    ∷ (codes "token_sha256", digest_told user.digest) ∷ (codes "username", string user.name) ∷ []

abbrev pub patch_fields : List ℕ → UserPatch → List Field
patch_fields by patch =
    (codes "by", string by) ∷ (codes "event", string (event_of kind.SetUser)) ∷ (codes "roles", or_null roles_told patch.roles)
    ∷ (codes "token_sha256", or_null digest_told patch.digest) ∷ (codes "username", string patch.name) ∷ []

abbrev pub user_dropped_fields : List ℕ → List ℕ → List Field
user_dropped_fields by name =
    (codes "by", string by) ∷ (codes "event", string (event_of kind.DropUser)) ∷ (codes "username", string name) ∷ []

abbrev pub access_fields : List ℕ → DagAccess → List Field
access_fields by access =
    (codes "access_control", or_null (list_of access_told) access.access) ∷ (codes "by", string by) ∷ (codes "dag_id", string access.dag)
    ∷ (codes "event", string (event_of kind.SyncDag)) ∷ []

abbrev pub change_fields : List ℕ → Change → List Field
change_fields by (AddRole input) = role_fields by kind.AddRole input
change_fields by (SetRole input) = role_fields by kind.SetRole input
change_fields by (DropRole name) = role_dropped_fields by name
change_fields by (AddUser user) = user_fields by user
change_fields by (SetUser patch) = patch_fields by patch
change_fields by (DropUser name) = user_dropped_fields by name
change_fields by (SyncDag access) = access_fields by access

-- the body of the line that tells a change and its author
abbrev pub change_body : ChangeLine → List ℕ
change_body line = body_of (change_fields line.by line.change)

-- ---- what holds of it

abbrev pub AreRows : List AccessRow → Type 0
AreRows [] = ⊤
AreRows (row ∷ rows) = IsName account_name_grammar row.role × AreRows rows

-- names are names, digests have 32 bytes
abbrev pub IsChange : Change → Type 0
IsChange (AddRole input) = IsName account_name_grammar input.name
IsChange (SetRole input) = IsName account_name_grammar input.name
IsChange (DropRole name) = IsName account_name_grammar name
IsChange (AddUser user) = IsName account_name_grammar user.name × IsDigest user.digest × AreNames account_name_grammar user.roles
IsChange (SetUser patch) =
    IsName account_name_grammar patch.name × IfThere IsDigest patch.digest × IfThere (AreNames account_name_grammar) patch.roles
IsChange (DropUser name) = IsName account_name_grammar name
IsChange (SyncDag access) = IsName id_grammar access.dag × IfThere AreRows access.access

abbrev pub IsChangeLine : ChangeLine → Type 0
IsChangeLine line = IsName account_name_grammar line.by × IsChange line.change
