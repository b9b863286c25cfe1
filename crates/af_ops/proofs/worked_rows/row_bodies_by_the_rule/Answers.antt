use Rattle.std.proofs.Common.{refl}
use Rattle.std.specs.Str.{is_utf8, chars}
use Rattle.serde_json.proofs.OnLiterals.{serde_json_on_literals}
use Rattle.af_ops.proofs.worked_rows.row_bodies_by_the_rule.Goals as goal

pub returns-clause-pool : goal.returns-clause-pool
unfolding serde_json_on_literals is_utf8 chars
returns-clause-pool c = refl

pub returns-clause-most : goal.returns-clause-most
unfolding serde_json_on_literals is_utf8 chars
returns-clause-most c = refl

pub returns-clause-past : goal.returns-clause-past
unfolding serde_json_on_literals is_utf8 chars
returns-clause-past c = refl

pub returns-clause-point : goal.returns-clause-point
unfolding serde_json_on_literals is_utf8 chars
returns-clause-point c = refl

pub returns-clause-below : goal.returns-clause-below
unfolding serde_json_on_literals is_utf8 chars
returns-clause-below c = refl

pub returns-clause-name_first : goal.returns-clause-name_first
unfolding serde_json_on_literals is_utf8 chars
returns-clause-name_first c = refl

pub returns-clause-no_name : goal.returns-clause-no_name
unfolding serde_json_on_literals is_utf8 chars
returns-clause-no_name c = refl

pub returns-clause-cut : goal.returns-clause-cut
unfolding serde_json_on_literals is_utf8 chars
returns-clause-cut c = refl

pub returns-clause-variable : goal.returns-clause-variable
unfolding serde_json_on_literals is_utf8 chars
returns-clause-variable c = refl

pub returns-clause-no_key : goal.returns-clause-no_key
unfolding serde_json_on_literals is_utf8 chars
returns-clause-no_key c = refl

pub returns-clause-no_text : goal.returns-clause-no_text
unfolding serde_json_on_literals is_utf8 chars
returns-clause-no_text c = refl

pub returns-clause-nothing : goal.returns-clause-nothing
unfolding serde_json_on_literals is_utf8 chars
returns-clause-nothing c = refl
