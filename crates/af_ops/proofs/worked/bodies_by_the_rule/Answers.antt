use Rattle.std.proofs.Common.{refl}
use Rattle.std.specs.Str.{is_utf8, chars}
use Rattle.serde_json.proofs.OnLiterals.{serde_json_on_literals}
use Rattle.af_ops.proofs.worked.bodies_by_the_rule.Goals as goal

pub returns-clause-paused : goal.returns-clause-paused
unfolding serde_json_on_literals is_utf8 chars
returns-clause-paused c = refl

pub returns-clause-others : goal.returns-clause-others
unfolding serde_json_on_literals is_utf8 chars
returns-clause-others c = refl

pub returns-clause-cut : goal.returns-clause-cut
unfolding serde_json_on_literals is_utf8 chars
returns-clause-cut c = refl

pub returns-clause-empty : goal.returns-clause-empty
unfolding serde_json_on_literals is_utf8 chars
returns-clause-empty c = refl

pub returns-clause-list : goal.returns-clause-list
unfolding serde_json_on_literals is_utf8 chars
returns-clause-list c = refl

pub returns-clause-absent : goal.returns-clause-absent
unfolding serde_json_on_literals is_utf8 chars
returns-clause-absent c = refl

pub returns-clause-nothing : goal.returns-clause-nothing
unfolding serde_json_on_literals is_utf8 chars
returns-clause-nothing c = refl

pub returns-clause-text : goal.returns-clause-text
unfolding serde_json_on_literals is_utf8 chars
returns-clause-text c = refl
