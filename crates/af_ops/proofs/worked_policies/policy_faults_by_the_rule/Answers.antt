use Rattle.std.proofs.Common.{refl}
use Rattle.std.specs.Fmt.{digits}
use Rattle.json.specs.Print.{escape_byte}
use Rattle.af_role.specs.DefaultRoles.{admin_pairs, op_pairs, user_pairs, viewer_pairs}
use Rattle.af_policy.specs.Drafts.{opening}
use Rattle.af_policy.specs.Samples.{sample}
use Rattle.af_ops.proofs.worked_policies.policy_faults_by_the_rule.Goals as goal

pub returns-clause-bad_action : goal.returns-clause-bad_action
unfolding digits escape_byte viewer_pairs user_pairs op_pairs admin_pairs opening sample
returns-clause-bad_action c = refl

pub returns-clause-unknown_role : goal.returns-clause-unknown_role
unfolding digits escape_byte viewer_pairs user_pairs op_pairs admin_pairs opening sample
returns-clause-unknown_role c = refl

pub returns-clause-pair : goal.returns-clause-pair
unfolding digits escape_byte viewer_pairs user_pairs op_pairs admin_pairs opening sample
returns-clause-pair c = refl

pub returns-clause-exists : goal.returns-clause-exists
unfolding digits escape_byte viewer_pairs user_pairs op_pairs admin_pairs opening sample
returns-clause-exists c = refl

pub returns-clause-taken : goal.returns-clause-taken
unfolding digits escape_byte viewer_pairs user_pairs op_pairs admin_pairs opening sample
returns-clause-taken c = refl

pub returns-clause-in_use : goal.returns-clause-in_use
unfolding digits escape_byte viewer_pairs user_pairs op_pairs admin_pairs opening sample
returns-clause-in_use c = refl

pub returns-clause-default_role : goal.returns-clause-default_role
unfolding digits escape_byte viewer_pairs user_pairs op_pairs admin_pairs opening sample
returns-clause-default_role c = refl

pub returns-clause-no_role : goal.returns-clause-no_role
unfolding digits escape_byte viewer_pairs user_pairs op_pairs admin_pairs opening sample
returns-clause-no_role c = refl

pub returns-clause-no_user : goal.returns-clause-no_user
unfolding digits escape_byte viewer_pairs user_pairs op_pairs admin_pairs opening sample
returns-clause-no_user c = refl

pub returns-clause-bad_body : goal.returns-clause-bad_body
unfolding digits escape_byte viewer_pairs user_pairs op_pairs admin_pairs opening sample
returns-clause-bad_body c = refl

pub returns-clause-bad_member : goal.returns-clause-bad_member
unfolding digits escape_byte viewer_pairs user_pairs op_pairs admin_pairs opening sample
returns-clause-bad_member c = refl

pub returns-clause-denied : goal.returns-clause-denied
unfolding digits escape_byte viewer_pairs user_pairs op_pairs admin_pairs opening sample
returns-clause-denied c = refl

pub returns-clause-full : goal.returns-clause-full
unfolding digits escape_byte viewer_pairs user_pairs op_pairs admin_pairs opening sample
returns-clause-full c = refl

pub returns-clause-conflict_first : goal.returns-clause-conflict_first
unfolding digits escape_byte viewer_pairs user_pairs op_pairs admin_pairs opening sample
returns-clause-conflict_first c = refl
