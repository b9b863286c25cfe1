use Rattle.std.proofs.Common.{refl}
use Rattle.std.specs.Str.{is_utf8, chars}
use Rattle.serde_json.proofs.OnLiterals.{serde_json_on_literals}
use Rattle.af_ops.proofs.worked_rows.row_routes_by_the_rule.Goals as goal

pub returns-clause-body : goal.returns-clause-body
unfolding serde_json_on_literals is_utf8 chars
returns-clause-body c = refl
