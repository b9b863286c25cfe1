use Rattle.std.proofs.Common.{refl}
use Rattle.std.specs.Fmt.{digits}
use Rattle.json.specs.Print.{escape_byte}
use Rattle.af_role.specs.DefaultRoles.{admin_pairs, op_pairs, user_pairs, viewer_pairs}
use Rattle.af_policy.specs.Drafts.{opening}
use Rattle.af_policy.specs.Samples.{sample}
use Rattle.af_ops.proofs.worked_policies.policy_changes_by_the_rule.Goals as goal

pub returns-clause-synced : goal.returns-clause-synced
unfolding digits escape_byte viewer_pairs user_pairs op_pairs admin_pairs opening sample
returns-clause-synced c = refl

pub returns-clause-emptied : goal.returns-clause-emptied
unfolding digits escape_byte viewer_pairs user_pairs op_pairs admin_pairs opening sample
returns-clause-emptied c = refl

pub returns-clause-added : goal.returns-clause-added
unfolding digits escape_byte viewer_pairs user_pairs op_pairs admin_pairs opening sample
returns-clause-added c = refl

pub returns-clause-set : goal.returns-clause-set
unfolding digits escape_byte viewer_pairs user_pairs op_pairs admin_pairs opening sample
returns-clause-set c = refl

pub returns-clause-user : goal.returns-clause-user
unfolding digits escape_byte viewer_pairs user_pairs op_pairs admin_pairs opening sample
returns-clause-user c = refl

pub returns-clause-dropped : goal.returns-clause-dropped
unfolding digits escape_byte viewer_pairs user_pairs op_pairs admin_pairs opening sample
returns-clause-dropped c = refl
