-- What is told of a change that was made (Airflow 2, "Stable REST API": POST and PATCH answer the row as it then stands, DELETE
-- answers that there is no content; a sync is this product's own).
use Rattle.std.specs.Prelude.{ℕ, Bool, true, false, List, Option, Some, option_map}
use Rattle.af_policy.specs.Rows.{PolicyRows, found_user}
use Rattle.af_policy.specs.Tables.{found_role}
use Rattle.af_policy.specs.Shown.{shown_user}
use Rattle.af_policy.specs.declared.change.Change.{Change}
use Rattle.af_policy.specs.declared.change.Change.TheVariants.{AddRole, SetRole, DropRole, AddUser, SetUser, DropUser, SyncDag}
use Rattle.af_policy.specs.declared.change_reply.ChangeReply.{ChangeReply}
use Rattle.af_policy.specs.declared.change_reply.ChangeReply.TheVariants.{Role, User, Gone, Synced}

abbrev pub role_reply : PolicyRows → List ℕ → Option ChangeReply
role_reply policy name = option_map (λ role. Role role) (found_role policy.roles name)

abbrev pub user_reply : PolicyRows → List ℕ → Option ChangeReply
user_reply policy name = option_map (λ user. User (shown_user user)) (found_user policy.users name)

-- what is told of a change under the policy that it left
abbrev pub change_told : PolicyRows → Change → Option ChangeReply
change_told later (AddRole input) = role_reply later input.name
change_told later (SetRole input) = role_reply later input.name
change_told later (DropRole name) = Some Gone
change_told later (AddUser user) = user_reply later user.name
change_told later (SetUser patch) = user_reply later patch.name
change_told later (DropUser name) = Some Gone
change_told later (SyncDag access) = Some Synced

-- where out of memory may be told: a user's roles are put in order
abbrev pub telling_wants : Change → Bool
telling_wants (AddRole input) = false
telling_wants (SetRole input) = false
telling_wants (DropRole name) = false
telling_wants (AddUser user) = true
telling_wants (SetUser patch) = true
telling_wants (DropUser name) = false
telling_wants (SyncDag access) = false
