use Rattle.std.proofs.Common.{refl}
use Rattle.hex.proofs.OnLiterals.{hex_on_literals}
use Rattle.serde_json.proofs.OnLiterals.{serde_json_on_literals}
use Rattle.af_store.proofs.worked.changes_by_the_rule.Goals as goal

pub returns-clause-user : goal.returns-clause-user
unfolding serde_json_on_literals hex_on_literals
returns-clause-user c = refl

pub returns-clause-nothing : goal.returns-clause-nothing
unfolding serde_json_on_literals hex_on_literals
returns-clause-nothing c = refl

pub returns-clause-access : goal.returns-clause-access
unfolding serde_json_on_literals hex_on_literals
returns-clause-access c = refl
