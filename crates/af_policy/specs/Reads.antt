-- What a user is shown of a policy: who the user is and what the user has, and roles and users (Airflow 2, "Stable REST
-- API", roles and users; who am I, and the order in which answers are decided, are this product's own rule).
use Rattle.std.specs.Prelude.{◌≡◌, ◌⊎◌, ℕ, Bool, true, false, List, [], length, map, IsOk, Option, Some, None, Result, Ok, Err}
use Rattle.af_role.specs.declared.action.Action.TheVariants.{Read}
use Rattle.af_role.specs.declared.resource.ResourceKind.TheVariants as resource
use Rattle.af_role.specs.declared.need.Need.{Need}
use Rattle.af_role.specs.Roles.{RoleRow}
use Rattle.af_policy.specs.Rows.{PolicyRows, UserRow, found_user}
use Rattle.af_policy.specs.Grants.{missing}
use Rattle.af_policy.specs.Identity.{bearer_of}
use Rattle.af_policy.specs.Tables.{found_role, permissions_of}
use Rattle.af_policy.specs.Changes.{on_all}
use Rattle.af_policy.specs.Shown.{page_rows, shown_user}
use Rattle.af_policy.specs.declared.me.Me.{Me}
use Rattle.af_policy.specs.declared.me_fault.MeFault.{MeFault}
use Rattle.af_policy.specs.declared.me_fault.MeFault.TheVariants as unknown
use Rattle.af_policy.specs.declared.policy_read.PolicyRead.{PolicyRead}
use Rattle.af_policy.specs.declared.policy_read.PolicyRead.TheVariants.{Roles, Role, Users, User, Bad}
use Rattle.af_policy.specs.declared.read_kind.ReadKind.{ReadKind}
use Rattle.af_policy.specs.declared.read_kind.ReadKind.TheVariants as kind
use Rattle.af_policy.specs.declared.policy_reply.PolicyReply.{PolicyReply}
use Rattle.af_policy.specs.declared.policy_reply.PolicyReply.TheVariants as reply
use Rattle.af_policy.specs.declared.read_fault.ReadFault.{ReadFault}
use Rattle.af_policy.specs.declared.read_fault.ReadFault.TheVariants.{Unauthenticated, Denied, BadBody, NoSuchRole, NoSuchUser}

-- a result is what is expected, or it tells out of memory in the place of what would be done; a refusal that is expected
-- is told, memory or not
abbrev pub MemoryLast : {X E : Type 0} → E → Result X E → Result X E → Type 0
MemoryLast memory expected (Ok x) = expected ≡ Ok x
MemoryLast memory expected (Err fault) = (expected ≡ Err fault) ⊎ (IsOk expected × (fault ≡ memory))

-- ---- who am I

abbrev pub me_shown : PolicyRows → Option UserRow → Result Me MeFault
me_shown policy None = Err unknown.Unauthenticated
me_shown policy (Some user) = Ok (record { user = shown_user user; permissions = permissions_of policy.roles user.roles })

abbrev pub me_by : PolicyRows → Option (List ℕ) → Result Me MeFault
me_by policy None = Err unknown.Unauthenticated
me_by policy (Some name) = me_shown policy (found_user policy.users name)

-- who brings a token, and what that user has
abbrev pub me_of : PolicyRows → Option (List ℕ) → Result Me MeFault
me_of policy token = me_by policy (bearer_of policy token)

-- ---- roles and users

abbrev pub read_kind : PolicyRead → ReadKind
read_kind (Roles span) = kind.Roles
read_kind (Role name) = kind.Role
read_kind (Users span) = kind.Users
read_kind (User name) = kind.User
read_kind (Bad kind input) = kind

-- what reading requires
abbrev pub reading_needs : ReadKind → List Need
reading_needs kind.Roles = on_all Read resource.Roles
reading_needs kind.Role = on_all Read resource.Roles
reading_needs kind.Users = on_all Read resource.Users
reading_needs kind.User = on_all Read resource.Users

abbrev pub role_told : Option RoleRow → Result PolicyReply ReadFault
role_told None = Err NoSuchRole
role_told (Some role) = Ok (reply.Role role)

abbrev pub user_told : Option UserRow → Result PolicyReply ReadFault
user_told None = Err NoSuchUser
user_told (Some user) = Ok (reply.User (shown_user user))

-- where out of memory may be told: the rows of a page are listed, or a user's roles are put in order
abbrev pub reading_wants : PolicyRead → Bool
reading_wants (Roles span) = true
reading_wants (Role name) = false
reading_wants (Users span) = true
reading_wants (User name) = true
reading_wants (Bad kind input) = false

-- what is read is told, or why it is not there
abbrev pub rows_told : PolicyRows → PolicyRead → Result PolicyReply ReadFault
rows_told policy (Roles span) = Ok (reply.Roles (record { rows = page_rows span policy.roles; total = length policy.roles }))
rows_told policy (Role name) = role_told (found_role policy.roles name)
rows_told policy (Users span) = Ok (reply.Users (record { rows = map shown_user (page_rows span policy.users); total = length policy.users }))
rows_told policy (User name) = user_told (found_user policy.users name)
rows_told policy (Bad kind input) = Err (BadBody input)

abbrev pub read_unless : PolicyRows → PolicyRead → Option Need → Result PolicyReply ReadFault
read_unless policy asked (Some need) = Err (Denied need)
read_unless policy asked None = rows_told policy asked

abbrev pub read_by : PolicyRows → PolicyRead → Option (List ℕ) → Result PolicyReply ReadFault
read_by policy asked None = Err Unauthenticated
read_by policy asked (Some user) = read_unless policy asked (missing policy user (reading_needs (read_kind asked)) None [])

-- what is read under a policy comes to: nobody's token; the first requirement that the reader lacks; a parameter that is
-- none; a row that is not there; or the rows
abbrev pub read_of : PolicyRows → Option (List ℕ) → PolicyRead → Result PolicyReply ReadFault
read_of policy token asked = read_by policy asked (bearer_of policy token)
