use Rattle.std.proofs.Common.{refl}
use Rattle.std.specs.Str.{is_utf8, chars}
use Rattle.serde_json.proofs.OnLiterals.{serde_json_on_literals}
use Rattle.af_base.proofs.worked.nesting_by_the_rule.Goals as goal

pub returns-clause-deepest : goal.returns-clause-deepest
unfolding serde_json_on_literals is_utf8 chars
returns-clause-deepest c = refl

pub returns-clause-too_deep : goal.returns-clause-too_deep
unfolding serde_json_on_literals is_utf8 chars
returns-clause-too_deep c = refl
