use Rattle.std.proofs.Common.{refl}
use Rattle.std.specs.Str.{is_utf8, chars}
use Rattle.serde_json.proofs.OnLiterals.{serde_json_on_literals}
use Rattle.af_ops.proofs.worked.marks_by_the_rule.Goals as goal

pub returns-clause-row : goal.returns-clause-row
unfolding serde_json_on_literals is_utf8 chars
returns-clause-row c = refl
