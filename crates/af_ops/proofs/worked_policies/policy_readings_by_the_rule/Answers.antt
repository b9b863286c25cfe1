use Rattle.std.proofs.Common.{refl}
use Rattle.std.specs.Fmt.{digits}
use Rattle.json.specs.Print.{escape_byte}
use Rattle.af_role.specs.DefaultRoles.{admin_pairs, op_pairs, user_pairs, viewer_pairs}
use Rattle.af_policy.specs.Drafts.{opening}
use Rattle.af_policy.specs.Samples.{sample}
use Rattle.af_ops.proofs.worked_policies.policy_readings_by_the_rule.Goals as goal

pub returns-clause-role : goal.returns-clause-role
unfolding digits escape_byte viewer_pairs user_pairs op_pairs admin_pairs opening sample
returns-clause-role c = refl

pub returns-clause-runs : goal.returns-clause-runs
unfolding digits escape_byte viewer_pairs user_pairs op_pairs admin_pairs opening sample
returns-clause-runs c = refl

pub returns-clause-roles : goal.returns-clause-roles
unfolding digits escape_byte viewer_pairs user_pairs op_pairs admin_pairs opening sample
returns-clause-roles c = refl

pub returns-clause-users : goal.returns-clause-users
unfolding digits escape_byte viewer_pairs user_pairs op_pairs admin_pairs opening sample
returns-clause-users c = refl

pub returns-clause-user : goal.returns-clause-user
unfolding digits escape_byte viewer_pairs user_pairs op_pairs admin_pairs opening sample
returns-clause-user c = refl

pub returns-clause-past : goal.returns-clause-past
unfolding digits escape_byte viewer_pairs user_pairs op_pairs admin_pairs opening sample
returns-clause-past c = refl

pub returns-clause-no_role : goal.returns-clause-no_role
unfolding digits escape_byte viewer_pairs user_pairs op_pairs admin_pairs opening sample
returns-clause-no_role c = refl

pub returns-clause-no_user : goal.returns-clause-no_user
unfolding digits escape_byte viewer_pairs user_pairs op_pairs admin_pairs opening sample
returns-clause-no_user c = refl

pub returns-clause-denied : goal.returns-clause-denied
unfolding digits escape_byte viewer_pairs user_pairs op_pairs admin_pairs opening sample
returns-clause-denied c = refl

pub returns-clause-bad : goal.returns-clause-bad
unfolding digits escape_byte viewer_pairs user_pairs op_pairs admin_pairs opening sample
returns-clause-bad c = refl
