use Rattle.std.proofs.Common.{refl}
use Rattle.std.specs.Str.{is_utf8, chars}
use Rattle.serde_json.proofs.OnLiterals.{serde_json_on_literals}
use Rattle.af_base.proofs.worked.texts_by_the_rule.Goals as goal

pub returns-clause-empty : goal.returns-clause-empty
unfolding serde_json_on_literals is_utf8 chars
returns-clause-empty c = refl

pub returns-clause-space : goal.returns-clause-space
unfolding serde_json_on_literals is_utf8 chars
returns-clause-space c = refl

pub returns-clause-comma : goal.returns-clause-comma
unfolding serde_json_on_literals is_utf8 chars
returns-clause-comma c = refl

pub returns-clause-twice : goal.returns-clause-twice
unfolding serde_json_on_literals is_utf8 chars
returns-clause-twice c = refl

pub returns-clause-order : goal.returns-clause-order
unfolding serde_json_on_literals is_utf8 chars
returns-clause-order c = refl

pub returns-clause-pair : goal.returns-clause-pair
unfolding serde_json_on_literals is_utf8 chars
returns-clause-pair c = refl

pub returns-clause-half : goal.returns-clause-half
unfolding serde_json_on_literals is_utf8 chars
returns-clause-half c = refl

pub returns-clause-bytes : goal.returns-clause-bytes
unfolding serde_json_on_literals is_utf8 chars
returns-clause-bytes c = refl

pub returns-clause-more : goal.returns-clause-more
unfolding serde_json_on_literals is_utf8 chars
returns-clause-more c = refl
