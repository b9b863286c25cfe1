use Rattle.std.proofs.Common.{refl}
use Rattle.af_role.specs.DefaultRoles.{admin_pairs, op_pairs, user_pairs, viewer_pairs}
use Rattle.af_role.proofs.worked.default_roles_by_the_rule.Goals as goal

pub returns-clause-names : goal.returns-clause-names
returns-clause-names c = refl

pub returns-clause-viewer : goal.returns-clause-viewer
unfolding viewer_pairs
returns-clause-viewer c = refl

pub returns-clause-user : goal.returns-clause-user
unfolding viewer_pairs user_pairs
returns-clause-user c = refl

pub returns-clause-op : goal.returns-clause-op
unfolding viewer_pairs user_pairs op_pairs
returns-clause-op c = refl

pub returns-clause-admin : goal.returns-clause-admin
unfolding viewer_pairs user_pairs op_pairs admin_pairs
returns-clause-admin c = refl
