use Rattle.std.proofs.Common.{refl}
use Rattle.hex.proofs.OnLiterals.{hex_on_literals}
use Rattle.serde_json.proofs.OnLiterals.{serde_json_on_literals}
use Rattle.af_policy.specs.Drafts.{opening}
use Rattle.af_server.proofs.worked.refusals_by_the_rule.Goals as goal

pub returns-clause-empty : goal.returns-clause-empty
unfolding serde_json_on_literals opening
returns-clause-empty c = refl

pub returns-clause-list : goal.returns-clause-list
unfolding serde_json_on_literals opening
returns-clause-list c = refl

pub returns-clause-no_admin : goal.returns-clause-no_admin
unfolding serde_json_on_literals opening
returns-clause-no_admin c = refl

pub returns-clause-roles : goal.returns-clause-roles
unfolding serde_json_on_literals opening
returns-clause-roles c = refl

pub returns-clause-action : goal.returns-clause-action
unfolding serde_json_on_literals opening
returns-clause-action c = refl

pub returns-clause-name : goal.returns-clause-name
unfolding serde_json_on_literals opening
returns-clause-name c = refl

pub returns-clause-pair : goal.returns-clause-pair
unfolding serde_json_on_literals opening
returns-clause-pair c = refl

pub returns-clause-default_role : goal.returns-clause-default_role
unfolding serde_json_on_literals opening
returns-clause-default_role c = refl

pub returns-clause-unknown_role : goal.returns-clause-unknown_role
unfolding serde_json_on_literals hex_on_literals opening
returns-clause-unknown_role c = refl
