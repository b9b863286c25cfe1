-- What a line that tells a change of the policy is read as: only the line that tells it (this product's own rule).
use Rattle.std.specs.Prelude.{ℕ, List, [], ◌∷◌, codes, ok_or, Result, Ok}
use Rattle.std.specs.List.{find}
use Rattle.serde_json.specs.Data.{Data}
use Rattle.af_names.specs.Names.{account_name_grammar, id_grammar}
use Rattle.af_base.specs.Readings.{◌>>=◌}
use Rattle.af_role.specs.declared.access.AccessRow.{AccessRow}
use Rattle.af_role.specs.declared.pair_text.PairText.{PairText}
use Rattle.af_policy.specs.Rows.{UserRow}
use Rattle.af_policy.specs.declared.change.Change.{Change}
use Rattle.af_policy.specs.declared.change.Change.TheVariants.{AddRole, SetRole, DropRole, AddUser, SetUser, DropUser, SyncDag}
use Rattle.af_policy.specs.declared.change.DagAccess.{DagAccess}
use Rattle.af_policy.specs.declared.change.RoleInput.{RoleInput}
use Rattle.af_policy.specs.declared.change.UserPatch.{UserPatch}
use Rattle.af_policy.specs.declared.change_kind.ChangeKind.{ChangeKind}
use Rattle.af_policy.specs.declared.change_kind.ChangeKind.TheVariants as kind
use Rattle.af_store.specs.Bodies.{same_text}
use Rattle.af_store.specs.Members.{digest_value, list_value, name_value, optional_in, required_in, row_in, text_value, told_as}
use Rattle.af_store.specs.ChangeLines.{change_body, event_of}
use Rattle.af_store.specs.declared.change_line.ChangeLine.{ChangeLine}
use Rattle.af_store.specs.declared.line_fault.LineFault.{LineFault}
use Rattle.af_store.specs.declared.line_fault.LineFault.TheVariants.{NotALine}

abbrev pub kinds : List ChangeKind
kinds = kind.AddRole ∷ kind.SetRole ∷ kind.DropRole ∷ kind.AddUser ∷ kind.SetUser ∷ kind.DropUser ∷ kind.SyncDag ∷ []

-- the kind of change whose event this is
abbrev pub kind_of : List ℕ → Result ChangeKind LineFault
kind_of event = ok_or (find (λ it. same_text (event_of it) event) kinds) NotALine

-- ---- kinds of value

abbrev pub text_object : Data → Result (List ℕ) LineFault
text_object value = required_in text_value (codes "name") value

abbrev pub role_name : Data → Result (List ℕ) LineFault
role_name value = required_in (name_value account_name_grammar) (codes "name") value

abbrev pub pair_read : Data → Result PairText LineFault
pair_read value = do
  action ← required_in text_object (codes "action") value
  resource ← required_in text_object (codes "resource") value
  Ok (record { action = action; resource = resource })

abbrev pub access_read : Data → Result AccessRow LineFault
access_read value = do
  role ← required_in (name_value account_name_grammar) (codes "role") value
  actions ← required_in (list_value text_value) (codes "DAGs") value
  runs ← required_in (list_value text_value) (codes "DAG Runs") value
  Ok (record { role = role; actions = actions; runs = runs })

-- ---- changes

abbrev pub role_read : Data → Result RoleInput LineFault
role_read row = do
  name ← required_in (name_value account_name_grammar) (codes "name") row
  actions ← required_in (list_value pair_read) (codes "actions") row
  Ok (record { name = name; actions = actions })

abbrev pub user_read : Data → Result UserRow LineFault
user_read row = do
  name ← required_in (name_value account_name_grammar) (codes "username") row
  digest ← required_in digest_value (codes "token_sha256") row
  roles ← required_in (list_value role_name) (codes "roles") row
  Ok (record { name = name; digest = digest; roles = roles })

abbrev pub patch_read : Data → Result UserPatch LineFault
patch_read row = do
  name ← required_in (name_value account_name_grammar) (codes "username") row
  digest ← optional_in digest_value (codes "token_sha256") row
  roles ← optional_in (list_value role_name) (codes "roles") row
  Ok (record { name = name; digest = digest; roles = roles })

abbrev pub dag_access_read : Data → Result DagAccess LineFault
dag_access_read row = do
  dag ← required_in (name_value id_grammar) (codes "dag_id") row
  access ← optional_in (list_value access_read) (codes "access_control") row
  Ok (record { dag = dag; access = access })

abbrev pub as_change : {X : Type 0} → (X → Change) → Result X LineFault → Result Change LineFault
as_change change read = read >>= (λ x. Ok (change x))

abbrev pub change_by : ChangeKind → Data → Result Change LineFault
change_by kind.AddRole row = as_change AddRole (role_read row)
change_by kind.SetRole row = as_change SetRole (role_read row)
change_by kind.DropRole row = as_change DropRole (required_in (name_value account_name_grammar) (codes "name") row)
change_by kind.AddUser row = as_change AddUser (user_read row)
change_by kind.SetUser row = as_change SetUser (patch_read row)
change_by kind.DropUser row = as_change DropUser (required_in (name_value account_name_grammar) (codes "username") row)
change_by kind.SyncDag row = as_change SyncDag (dag_access_read row)

abbrev pub change_read : Data → Result Change LineFault
change_read row = do
  event ← required_in text_value (codes "event") row
  it ← kind_of event
  change_by it row

-- ---- lines

-- the author and the change that a body's members say
abbrev pub change_in : Data → Result ChangeLine LineFault
change_in row = do
  by ← required_in (name_value account_name_grammar) (codes "by") row
  change ← change_read row
  Ok (record { by = by; change = change })

-- what a body says, if it is just the text by which that is told
abbrev pub change_of : List ℕ → Result ChangeLine LineFault
change_of body = do
  row ← row_in body
  line ← change_in row
  told_as change_body body line
