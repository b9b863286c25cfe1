use Rattle.std.proofs.Common.{refl}
use Rattle.hex.specs.Hex.{decode_pairs}
use Rattle.std.specs.Str.{is_utf8, chars}
use Rattle.serde_json.proofs.OnLiterals.{serde_json_on_literals}
use Rattle.af_ops.proofs.worked_policies.policy_bodies_by_the_rule.Goals as goal

pub returns-clause-role : goal.returns-clause-role
unfolding serde_json_on_literals is_utf8 chars
returns-clause-role c = refl

pub returns-clause-no_name : goal.returns-clause-no_name
unfolding serde_json_on_literals is_utf8 chars
returns-clause-no_name c = refl

pub returns-clause-no_actions : goal.returns-clause-no_actions
unfolding serde_json_on_literals is_utf8 chars
returns-clause-no_actions c = refl

pub returns-clause-no_resource : goal.returns-clause-no_resource
unfolding serde_json_on_literals is_utf8 chars
returns-clause-no_resource c = refl

pub returns-clause-cut : goal.returns-clause-cut
unfolding serde_json_on_literals is_utf8 chars
returns-clause-cut c = refl

pub returns-clause-user : goal.returns-clause-user
unfolding decode_pairs serde_json_on_literals is_utf8 chars
returns-clause-user c = refl

pub returns-clause-no_role : goal.returns-clause-no_role
unfolding serde_json_on_literals is_utf8 chars
returns-clause-no_role c = refl

pub returns-clause-short : goal.returns-clause-short
unfolding decode_pairs serde_json_on_literals is_utf8 chars
returns-clause-short c = refl

pub returns-clause-nothing : goal.returns-clause-nothing
unfolding serde_json_on_literals is_utf8 chars
returns-clause-nothing c = refl

pub returns-clause-in_order : goal.returns-clause-in_order
unfolding serde_json_on_literals is_utf8 chars
returns-clause-in_order c = refl

pub returns-clause-null_role : goal.returns-clause-null_role
unfolding serde_json_on_literals is_utf8 chars
returns-clause-null_role c = refl

pub returns-clause-misnamed : goal.returns-clause-misnamed
unfolding serde_json_on_literals is_utf8 chars
returns-clause-misnamed c = refl

pub returns-clause-absent : goal.returns-clause-absent
unfolding serde_json_on_literals is_utf8 chars
returns-clause-absent c = refl

pub returns-clause-runs : goal.returns-clause-runs
unfolding serde_json_on_literals is_utf8 chars
returns-clause-runs c = refl

pub returns-clause-runs_alone : goal.returns-clause-runs_alone
unfolding serde_json_on_literals is_utf8 chars
returns-clause-runs_alone c = refl

pub returns-clause-null_list : goal.returns-clause-null_list
unfolding serde_json_on_literals is_utf8 chars
returns-clause-null_list c = refl

pub returns-clause-no_list : goal.returns-clause-no_list
unfolding serde_json_on_literals is_utf8 chars
returns-clause-no_list c = refl

pub returns-clause-last_list : goal.returns-clause-last_list
unfolding serde_json_on_literals is_utf8 chars
returns-clause-last_list c = refl

pub returns-clause-wrong_list : goal.returns-clause-wrong_list
unfolding serde_json_on_literals is_utf8 chars
returns-clause-wrong_list c = refl

pub returns-clause-other_list : goal.returns-clause-other_list
unfolding serde_json_on_literals is_utf8 chars
returns-clause-other_list c = refl

pub returns-clause-other_null : goal.returns-clause-other_null
unfolding serde_json_on_literals is_utf8 chars
returns-clause-other_null c = refl
