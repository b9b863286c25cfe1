-- The operations on the policy, with what a request says of them.
use Rattle.std.specs.Prelude.{ℕ, List, min, Option, Some, None, Result, Ok, Err}
use Rattle.af_listing.specs.Windows.{Cut}
use Rattle.af_policy.specs.Reads.{read_kind}
use Rattle.af_policy.specs.Versions.{asked_kind}
use Rattle.af_policy.specs.declared.ask.Ask.{Ask}
use Rattle.af_policy.specs.declared.ask.Ask.TheVariants.{Made, Bad}
use Rattle.af_policy.specs.declared.bad_input.BadInput.TheVariants as bad
use Rattle.af_policy.specs.declared.bad_input.Parameter.{Parameter}
use Rattle.af_policy.specs.declared.change.Change.{Change}
use Rattle.af_policy.specs.declared.change.Change.TheVariants.{AddRole, SetRole, DropRole, AddUser, SetUser, DropUser, SyncDag}
use Rattle.af_policy.specs.declared.change_kind.ChangeKind.{ChangeKind}
use Rattle.af_policy.specs.declared.change_kind.ChangeKind.TheVariants as kind
use Rattle.af_policy.specs.declared.policy_read.PolicyRead.{PolicyRead}
use Rattle.af_policy.specs.declared.policy_read.PolicyRead.TheVariants as read
use Rattle.af_policy.specs.declared.read_kind.ReadKind.{ReadKind}
use Rattle.af_policy.specs.declared.read_kind.ReadKind.TheVariants as reading
use Rattle.af_policy.specs.declared.span.Span.{Span}
use Rattle.af_ops.specs.declared.endpoint.Endpoint.{Endpoint}
use Rattle.af_ops.specs.declared.endpoint.Endpoint.TheVariants as endpoint
use Rattle.af_ops.specs.declared.policy_op.PolicyOp.{PolicyOp}
use Rattle.af_ops.specs.declared.policy_op.PolicyOp.TheVariants as policy_op

abbrev pub read_endpoint : ReadKind → Endpoint
read_endpoint reading.Roles = endpoint.ListRoles
read_endpoint reading.Role = endpoint.GetRole
read_endpoint reading.Users = endpoint.ListUsers
read_endpoint reading.User = endpoint.GetUser

abbrev pub change_endpoint : ChangeKind → Endpoint
change_endpoint kind.AddRole = endpoint.AddRole
change_endpoint kind.SetRole = endpoint.ChangeRole
change_endpoint kind.DropRole = endpoint.DeleteRole
change_endpoint kind.AddUser = endpoint.AddUser
change_endpoint kind.SetUser = endpoint.ChangeUser
change_endpoint kind.DropUser = endpoint.DeleteUser
change_endpoint kind.SyncDag = endpoint.SyncDag

abbrev pub endpoint_of : PolicyOp → Endpoint
endpoint_of policy_op.Me = endpoint.GetMe
endpoint_of (policy_op.Read asked) = read_endpoint (read_kind asked)
endpoint_of (policy_op.Change ask) = change_endpoint (asked_kind ask)
endpoint_of (policy_op.Unread kind) = change_endpoint kind

-- ---- what is read

-- the last number of 32 bits: no policy has more roles or users
abbrev pub last_place : ℕ
last_place = 4_294_967_295

-- what a query asks of roles or users; an offset past the last number of 32 bits passes over them all, as that number does
abbrev pub span_of : Cut → Span
span_of window = record { limit = window.limit; offset = min last_place window.offset }

abbrev pub page_asked : ReadKind → (Span → PolicyRead) → Result Cut Parameter → PolicyOp
page_asked of_kind asked (Ok window) = policy_op.Read (asked (span_of window))
page_asked of_kind asked (Err it) = policy_op.Read (read.Bad of_kind (bad.Parameter it))

-- a page of roles, or of users
abbrev pub roles_asked : Result Cut Parameter → PolicyOp
roles_asked asked = page_asked reading.Roles read.Roles asked

abbrev pub users_asked : Result Cut Parameter → PolicyOp
users_asked asked = page_asked reading.Users read.Users asked

-- ---- changes

abbrev pub made : Change → PolicyOp
made change = policy_op.Change (Made change)

-- the same change, whose body was not read for lack of memory; what has no body stays
abbrev pub unread_change : Change → PolicyOp
unread_change (AddRole input) = policy_op.Unread kind.AddRole
unread_change (SetRole input) = policy_op.Unread kind.SetRole
unread_change (DropRole name) = made (DropRole name)
unread_change (AddUser user) = policy_op.Unread kind.AddUser
unread_change (SetUser patch) = policy_op.Unread kind.SetUser
unread_change (DropUser name) = made (DropUser name)
unread_change (SyncDag access) = policy_op.Unread kind.SyncDag

abbrev pub unread_ask : Ask → PolicyOp
unread_ask (Made change) = unread_change change
unread_ask (Bad kind input) = policy_op.Unread kind

-- the same operation, whose body was not read for lack of memory
abbrev pub unread : PolicyOp → PolicyOp
unread policy_op.Me = policy_op.Me
unread (policy_op.Read asked) = policy_op.Read asked
unread (policy_op.Change ask) = unread_ask ask
unread (policy_op.Unread kind) = policy_op.Unread kind

-- the DAG whose access control a change takes over, or none
abbrev pub synced_dag : Change → Option (List ℕ)
synced_dag (AddRole input) = None
synced_dag (SetRole input) = None
synced_dag (DropRole name) = None
synced_dag (AddUser user) = None
synced_dag (SetUser patch) = None
synced_dag (DropUser name) = None
synced_dag (SyncDag access) = Some access.dag
