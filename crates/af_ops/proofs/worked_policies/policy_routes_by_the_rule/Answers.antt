use Rattle.std.proofs.Common.{refl}
use Rattle.form_urlencoded.specs.Form.{raw_pairs, split}
use Rattle.percent_encoding.specs.Percent.{percent_decode}
use Rattle.af_ops.proofs.worked_policies.policy_routes_by_the_rule.Goals as goal

pub returns-clause-entries : goal.returns-clause-entries
unfolding raw_pairs split percent_decode
returns-clause-entries c = refl

pub returns-clause-bad_entries : goal.returns-clause-bad_entries
unfolding raw_pairs split percent_decode
returns-clause-bad_entries c = refl

pub returns-clause-roles : goal.returns-clause-roles
unfolding raw_pairs split percent_decode
returns-clause-roles c = refl

pub returns-clause-users : goal.returns-clause-users
unfolding raw_pairs split percent_decode
returns-clause-users c = refl
