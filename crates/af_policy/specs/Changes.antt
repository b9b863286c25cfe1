-- Changes of a policy: the next policy, or the first fault in the order in which they are told (Airflow 2, "Access Control",
-- roles and users; the faults and their order are this product's own rule).
use Rattle.std.specs.Prelude.{ℕ, List, [], ◌∷◌, length, Bool, true, false, not, ◌||◌, nat_le, codes, map, Option, Some, None, option_map, unwrap_or, Result, Ok, Err, if◌then◌else◌}
use Rattle.std.specs.List.{find}
use Rattle.af_role.specs.declared.action.Action.{Action}
use Rattle.af_role.specs.declared.action.Action.TheVariants.{Create, Edit, Delete}
use Rattle.af_role.specs.declared.resource.ResourceKind.{ResourceKind}
use Rattle.af_role.specs.declared.resource.ResourceKind.TheVariants.{Roles, Users}
use Rattle.af_role.specs.declared.need.Need.{Need}
use Rattle.af_role.specs.declared.access.AccessRow.{AccessRow}
use Rattle.af_role.specs.declared.pair_fault.PairFault.{PairFault}
use Rattle.af_role.specs.declared.pair_fault.PairFault.TheVariants as pair
use Rattle.af_role.specs.Pairs.{PairRow}
use Rattle.af_role.specs.PairTexts.{pairs_read}
use Rattle.af_role.specs.Roles.{RoleRow}
use Rattle.af_role.specs.Access.{bad_action, synced_role}
use Rattle.af_policy.specs.Rows.{PolicyRows, UserRow, found_user, has_admin, has_digest, has_role, has_user, most_roles, most_users, role_in_use, same_name, with_role, with_user, without_role, without_user}
use Rattle.af_policy.specs.declared.change.Change.{Change}
use Rattle.af_policy.specs.declared.change.Change.TheVariants.{AddRole, SetRole, DropRole, AddUser, SetUser, DropUser, SyncDag}
use Rattle.af_policy.specs.declared.change.UserPatch.{UserPatch}
use Rattle.af_policy.specs.declared.change_kind.ChangeKind.{ChangeKind}
use Rattle.af_policy.specs.declared.change_kind.ChangeKind.TheVariants as kind
use Rattle.af_policy.specs.declared.change_fault.ChangeFault.{ChangeFault}
use Rattle.af_policy.specs.declared.change_fault.ChangeFault.TheVariants.{BadAction, PairNotAllowed, UnknownRole, NoSuchRole, NoSuchUser, DefaultRole, Exists, RoleInUse, LastAdmin, TooMany, OutOfMemory}

abbrev pub kind_of : Change → ChangeKind
kind_of (AddRole input) = kind.AddRole
kind_of (SetRole input) = kind.SetRole
kind_of (DropRole name) = kind.DropRole
kind_of (AddUser user) = kind.AddUser
kind_of (SetUser patch) = kind.SetUser
kind_of (DropUser name) = kind.DropUser
kind_of (SyncDag access) = kind.SyncDag

abbrev pub on_all : Action → ResourceKind → List Need
on_all action kind = record { action = action; kind = kind; at_dag = false } ∷ []

-- what a change requires of its author
abbrev pub needs_of : ChangeKind → List Need
needs_of kind.AddRole = on_all Create Roles
needs_of kind.SetRole = on_all Edit Roles
needs_of kind.DropRole = on_all Delete Roles
needs_of kind.AddUser = on_all Create Users
needs_of kind.SetUser = on_all Edit Users
needs_of kind.DropUser = on_all Delete Users
needs_of kind.SyncDag = on_all Edit Roles

abbrev pub is_default : List ℕ → Bool
is_default name =
    same_name name (codes "Public") || same_name name (codes "Viewer") || same_name name (codes "User")
    || same_name name (codes "Op") || same_name name (codes "Admin")

-- ---- roles

abbrev pub refused_pairs : PairFault → ChangeFault
refused_pairs (pair.BadAction text) = BadAction text
refused_pairs (pair.NotAllowed text) = PairNotAllowed text
refused_pairs pair.OutOfMemory = OutOfMemory

abbrev pub role_added : PolicyRows → List ℕ → List PairRow → Result PolicyRows ChangeFault
role_added policy name pairs =
    if has_role policy.roles name then Err Exists
    else (if nat_le most_roles (length policy.roles) then Err TooMany
    else Ok (record { users = policy.users; roles = with_role policy.roles (record { name = name; pairs = pairs }) }))

abbrev pub role_set : PolicyRows → List ℕ → List PairRow → Result PolicyRows ChangeFault
role_set policy name pairs =
    if not (has_role policy.roles name) then Err NoSuchRole
    else (if is_default name then Err DefaultRole
    else Ok (record { users = policy.users; roles = with_role policy.roles (record { name = name; pairs = pairs }) }))

abbrev pub role_dropped : PolicyRows → List ℕ → Result PolicyRows ChangeFault
role_dropped policy name =
    if not (has_role policy.roles name) then Err NoSuchRole
    else (if is_default name then Err DefaultRole
    else (if role_in_use policy.users name then Err RoleInUse
    else Ok (record { users = policy.users; roles = without_role policy.roles name })))

-- a change to permissions that are read first
abbrev pub after_pairs : Result (List PairRow) PairFault → (List PairRow → Result PolicyRows ChangeFault) → Result PolicyRows ChangeFault
after_pairs (Err fault) change = Err (refused_pairs fault)
after_pairs (Ok pairs) change = change pairs

-- ---- users

-- the first of these roles that is not there
abbrev pub unknown_role : List RoleRow → List (List ℕ) → Option (List ℕ)
unknown_role roles names = find (λ name. not (has_role roles name)) names

abbrev pub unless_unknown : Option (List ℕ) → Result PolicyRows ChangeFault → Result PolicyRows ChangeFault
unless_unknown (Some name) change = Err (UnknownRole name)
unless_unknown None change = change

abbrev pub new_user : PolicyRows → UserRow → Result PolicyRows ChangeFault
new_user policy user =
    if has_user policy.users user.name || has_digest policy.users user.digest then Err Exists
    else (if nat_le most_users (length policy.users) then Err TooMany
    else Ok (record { users = with_user policy.users user; roles = policy.roles }))

abbrev pub user_added : PolicyRows → UserRow → Result PolicyRows ChangeFault
user_added policy user = unless_unknown (unknown_role policy.roles user.roles) (new_user policy user)

abbrev pub unknown_given : List RoleRow → Option (List (List ℕ)) → Option (List ℕ)
unknown_given roles None = None
unknown_given roles (Some names) = unknown_role roles names

-- the digest is that of a user of another name
abbrev pub is_anothers : List UserRow → List ℕ → Option (List ℕ) → Bool
is_anothers users name None = false
is_anothers users name (Some digest) = has_digest (without_user users name) digest

abbrev pub patched : UserPatch → UserRow → UserRow
patched patch user = record { name = patch.name; digest = unwrap_or patch.digest user.digest; roles = unwrap_or patch.roles user.roles }

-- the users with another in the place of the one of that name
abbrev pub replaced : List UserRow → UserRow → List UserRow
replaced users user = with_user (without_user users user.name) user

abbrev pub user_patched : PolicyRows → UserPatch → Option UserRow → Result PolicyRows ChangeFault
user_patched policy patch None = Err NoSuchUser
user_patched policy patch (Some user) =
    if is_anothers policy.users patch.name patch.digest then Err Exists
    else (if not (has_admin (replaced policy.users (patched patch user))) then Err LastAdmin
    else Ok (record { users = replaced policy.users (patched patch user); roles = policy.roles }))

abbrev pub user_set : PolicyRows → UserPatch → Result PolicyRows ChangeFault
user_set policy patch =
    unless_unknown (unknown_given policy.roles patch.roles) (user_patched policy patch (found_user policy.users patch.name))

abbrev pub user_gone : PolicyRows → List ℕ → Option UserRow → Result PolicyRows ChangeFault
user_gone policy name None = Err NoSuchUser
user_gone policy name (Some user) =
    if not (has_admin (without_user policy.users name)) then Err LastAdmin
    else Ok (record { users = without_user policy.users name; roles = policy.roles })

abbrev pub user_dropped : PolicyRows → List ℕ → Result PolicyRows ChangeFault
user_dropped policy name = user_gone policy name (found_user policy.users name)

-- ---- the access control of a DAG

-- the first role that access control names and that is not there
abbrev pub unknown_row : List RoleRow → List AccessRow → Option (List ℕ)
unknown_row roles access = option_map (λ row. row.role) (find (λ row. not (has_role roles row.role)) access)

abbrev pub synced_unless : PolicyRows → List ℕ → List AccessRow → Option (List ℕ) → Option (List ℕ) → Result PolicyRows ChangeFault
synced_unless policy dag access (Some text) unknown = Err (BadAction text)
synced_unless policy dag access None (Some name) = Err (UnknownRole name)
synced_unless policy dag access None None = Ok (record { users = policy.users; roles = map (synced_role dag access) policy.roles })

-- without access control all roles stay; with it, Admin keeps all, each other role loses its permissions on that DAG alone and
-- on its runs alone, and those listed come
abbrev pub dag_synced : PolicyRows → List ℕ → Option (List AccessRow) → Result PolicyRows ChangeFault
dag_synced policy dag None = Ok policy
dag_synced policy dag (Some access) =
    synced_unless policy dag access (bad_action access) (unknown_row policy.roles access)

-- ---- any change

abbrev pub changed : PolicyRows → Change → Result PolicyRows ChangeFault
changed policy (AddRole input) = after_pairs (pairs_read input.actions) (role_added policy input.name)
changed policy (SetRole input) = after_pairs (pairs_read input.actions) (role_set policy input.name)
changed policy (DropRole name) = role_dropped policy name
changed policy (AddUser user) = user_added policy user
changed policy (SetUser patch) = user_set policy patch
changed policy (DropUser name) = user_dropped policy name
changed policy (SyncDag access) = dag_synced policy access.dag access.access

-- a fault that is told with a text, which wants memory
abbrev pub has_text : ChangeFault → Bool
has_text (BadAction text) = true
has_text (PairNotAllowed text) = true
has_text (UnknownRole name) = true
has_text NoSuchRole = false
has_text NoSuchUser = false
has_text DefaultRole = false
has_text Exists = false
has_text RoleInUse = false
has_text LastAdmin = false
has_text TooMany = false
has_text OutOfMemory = true

abbrev pub wants_memory : Result PolicyRows ChangeFault → Bool
wants_memory (Ok policy) = true
wants_memory (Err fault) = has_text fault

-- where out of memory may be told in the place of what follows: a policy or a text is made
abbrev pub may_want_memory : PolicyRows → Change → Bool
may_want_memory policy change = wants_memory (changed policy change)
