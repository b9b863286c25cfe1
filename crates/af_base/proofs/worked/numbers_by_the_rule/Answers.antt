use Rattle.std.proofs.Common.{refl}
use Rattle.std.specs.Str.{is_utf8, chars}
use Rattle.serde_json.proofs.OnLiterals.{serde_json_on_literals}
use Rattle.af_base.proofs.worked.numbers_by_the_rule.Goals as goal

pub returns-clause-largest : goal.returns-clause-largest
unfolding serde_json_on_literals is_utf8 chars
returns-clause-largest c = refl

pub returns-clause-past : goal.returns-clause-past
unfolding serde_json_on_literals is_utf8 chars
returns-clause-past c = refl

pub returns-clause-below : goal.returns-clause-below
unfolding serde_json_on_literals is_utf8 chars
returns-clause-below c = refl

pub returns-clause-point : goal.returns-clause-point
unfolding serde_json_on_literals is_utf8 chars
returns-clause-point c = refl

pub returns-clause-far : goal.returns-clause-far
unfolding serde_json_on_literals is_utf8 chars
returns-clause-far c = refl

pub returns-clause-zeros : goal.returns-clause-zeros
unfolding serde_json_on_literals is_utf8 chars
returns-clause-zeros c = refl
