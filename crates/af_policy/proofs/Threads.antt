-- Policies may go to another thread, and be shared by threads.
use Rattle.std.proofs.Crossing.{crosses}
use denote.Param.Send.{IsSend, IsSync, sendable}
use Rattle.af_policy.specs.contracts.uses.Uses as uses
use Rattle.af_policy.specs.contracts.user_table.UserTable as users
use Rattle.af_policy.specs.contracts.role_table.RoleTable as roles
use Rattle.af_policy.specs.contracts.tables.Tables as tables
use Rattle.af_policy.specs.contracts.policy.Policy as policy
use Rattle.af_policy.proofs.shared.node.Node.TheLaws.TheKnot as knot
use Rattle.af_policy.proofs.uses.RoleUse.TheSendSync as role_use
use Rattle.af_policy.proofs.user_rows.ByName.TheSendSync as by_name
use Rattle.af_policy.proofs.user_rows.ByDigest.TheSendSync as by_digest
use Rattle.af_policy.proofs.role_rows.RoleByName.TheSendSync as role_by_name

pub uses_sync : IsSync uses.the_row
uses_sync = search (sendable, crosses, knot.crosses, knot.crosses_both, role_use.the_send, role_use.the_sync) depth 60 fits 100000

pub users_sync : IsSync users.the_row
users_sync = search (sendable, crosses, knot.crosses, knot.crosses_both, by_name.the_send, by_name.the_sync, by_digest.the_send, by_digest.the_sync) depth 60 fits 100000

pub roles_sync : IsSync roles.the_row
roles_sync = search (sendable, crosses, knot.crosses, knot.crosses_both, role_by_name.the_send, role_by_name.the_sync) depth 60 fits 100000

pub tables_sync : IsSync tables.the_row
tables_sync = search (sendable, crosses, users_sync, roles_sync, uses_sync) depth 60

pub policy_sync : IsSync policy.the_row
policy_sync = search (sendable, tables_sync) depth 60

pub uses_send : IsSend uses.the_row
uses_send = search (sendable, crosses, knot.crosses, knot.crosses_both, role_use.the_send, role_use.the_sync) depth 60 fits 100000

pub users_send : IsSend users.the_row
users_send = search (sendable, crosses, knot.crosses, knot.crosses_both, by_name.the_send, by_name.the_sync, by_digest.the_send, by_digest.the_sync) depth 60 fits 100000

pub roles_send : IsSend roles.the_row
roles_send = search (sendable, crosses, knot.crosses, knot.crosses_both, role_by_name.the_send, role_by_name.the_sync) depth 60 fits 100000

pub tables_send : IsSend tables.the_row
tables_send = search (sendable, crosses, users_send, roles_send, uses_send) depth 60

pub policy_send : IsSend policy.the_row
policy_send = search (sendable, tables_send) depth 60
