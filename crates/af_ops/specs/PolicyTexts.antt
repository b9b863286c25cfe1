-- Roles and users as they are told, who brings a token, and a sync (Airflow 2, "Stable REST API", roles and users; who am I and the
-- sync are this product's own), each as its members in byte order of their names.
use Rattle.std.specs.Prelude.{ℕ, List, [], ◌∷◌, map, Option, Some, None, option_and_then, unwrap_or, codes}
use Rattle.serde_json.specs.Data.{Data, array, number, unsigned, string}
use Rattle.serde_json.specs.View.{items_of}
use Rattle.serde_json.specs.Written.{compact_text}
use Rattle.af_role.specs.Pairs.{PairRow, pair_text}
use Rattle.af_role.specs.Resources.{action_text, resource_text}
use Rattle.af_role.specs.Roles.{RoleRow}
use Rattle.af_policy.specs.Replies.{change_told}
use Rattle.af_policy.specs.Rows.{PolicyRows}
use Rattle.af_policy.specs.Shown.{ShownRow}
use Rattle.af_policy.specs.declared.change.Change.{Change}
use Rattle.af_policy.specs.declared.change_reply.ChangeReply.{ChangeReply}
use Rattle.af_policy.specs.declared.change_reply.ChangeReply.TheVariants as change
use Rattle.af_policy.specs.declared.me.Me.{Me}
use Rattle.af_policy.specs.declared.policy_reply.PolicyReply.{PolicyReply}
use Rattle.af_policy.specs.declared.policy_reply.PolicyReply.TheVariants as reply
use Rattle.af_ops.specs.Fields.{Field, late_listing_of, listing_of, object_of}
use Rattle.af_ops.specs.PolicyOps.{synced_dag}

-- what has a name
abbrev pub named_fields : List ℕ → List Field
named_fields name = (codes "name", string name) ∷ []

abbrev pub named_data : List ℕ → Data
named_data name = object_of (named_fields name)

-- a permission
abbrev pub pair_fields : PairRow → List Field
pair_fields pair =
    (codes "action", named_data (action_text pair.action))
    ∷ (codes "resource", named_data (resource_text pair.resource))
    ∷ []

abbrev pub pair_data : PairRow → Data
pair_data pair = object_of (pair_fields pair)

abbrev pub role_fields : RoleRow → List Field
role_fields role =
    (codes "actions", array (items_of (map pair_data role.pairs)))
    ∷ (codes "name", string role.name)
    ∷ []

abbrev pub role_data : RoleRow → Data
role_data role = object_of (role_fields role)

abbrev pub user_fields : ShownRow → List Field
user_fields user =
    (codes "roles", array (items_of (map named_data user.roles)))
    ∷ (codes "username", string user.name)
    ∷ []

abbrev pub user_data : ShownRow → Data
user_data user = object_of (user_fields user)

-- who brings a token, and what that user may do under a version
pub record MeTold : Type 0 where
  pub me : Me
  pub version : ℕ

abbrev pub me_fields : MeTold → List Field
me_fields told =
    (codes "permissions", array (items_of (map (λ pair. string (pair_text pair)) told.me.permissions)))
    ∷ (codes "policy_version", number (unsigned told.version))
    ∷ (codes "roles", array (items_of (map (λ name. string name) told.me.user.roles)))
    ∷ (codes "username", string told.me.user.name)
    ∷ []

-- a DAG whose access control was taken over, and the version that this made
pub record SyncTold : Type 0 where
  pub dag_id : List ℕ
  pub version : ℕ

abbrev pub sync_fields : SyncTold → List Field
sync_fields told =
    (codes "dag_id", string told.dag_id)
    ∷ (codes "policy_version", number (unsigned told.version))
    ∷ []

-- ---- replies

abbrev pub reply_data : PolicyReply → Data
reply_data (reply.Roles page) = listing_of (codes "roles") (map role_data page.rows) page.total
reply_data (reply.Role role) = role_data role
reply_data (reply.Users page) = late_listing_of (codes "users") (map user_data page.rows) page.total
reply_data (reply.User user) = user_data user

abbrev pub sync_text : ℕ → Change → List ℕ
sync_text version it = compact_text (object_of (sync_fields (record { dag_id = unwrap_or (synced_dag it) []; version = version })))

-- the text of what is told of a change that made this version; what is gone has none
abbrev pub made_text : ℕ → Change → ChangeReply → Option (List ℕ)
made_text version it (change.Role role) = Some (compact_text (role_data role))
made_text version it (change.User user) = Some (compact_text (user_data user))
made_text version it change.Gone = None
made_text version it change.Synced = Some (sync_text version it)

-- the text of a change that left this policy as this version: of each change that is made something is told
abbrev pub change_text : ℕ → PolicyRows → Change → Option (List ℕ)
change_text version later it = option_and_then (made_text version it) (change_told later it)
