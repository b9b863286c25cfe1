use Rattle.std.proofs.Common.{refl}
use Rattle.std.specs.Fmt.{digits}
use Rattle.json.specs.Print.{escape_byte}
use Rattle.af_role.specs.DefaultRoles.{admin_pairs, op_pairs, user_pairs, viewer_pairs}
use Rattle.af_policy.specs.Drafts.{opening}
use Rattle.af_policy.specs.Samples.{sample}
use Rattle.af_ops.proofs.worked_policies.identities_by_the_rule.Goals as goal

pub returns-clause-bob : goal.returns-clause-bob
unfolding digits escape_byte viewer_pairs user_pairs op_pairs admin_pairs opening sample
returns-clause-bob c = refl

pub returns-clause-pat : goal.returns-clause-pat
unfolding digits escape_byte viewer_pairs user_pairs op_pairs admin_pairs opening sample
returns-clause-pat c = refl

pub returns-clause-edna : goal.returns-clause-edna
unfolding digits escape_byte viewer_pairs user_pairs op_pairs admin_pairs opening sample
returns-clause-edna c = refl
