use Rattle.std.proofs.Common.{refl}
use Rattle.std.specs.Fmt.{digits}
use Rattle.hex.proofs.OnLiterals.{hex_on_literals}
use Rattle.serde_json.proofs.OnLiterals.{serde_json_on_literals}
use Rattle.af_store.proofs.worked.refusals_by_the_rule.Goals as goal

pub returns-clause-tick : goal.returns-clause-tick
unfolding digits serde_json_on_literals hex_on_literals
returns-clause-tick c = refl

pub returns-clause-order : goal.returns-clause-order
unfolding digits serde_json_on_literals hex_on_literals
returns-clause-order c = refl

pub returns-clause-space : goal.returns-clause-space
unfolding digits serde_json_on_literals hex_on_literals
returns-clause-space c = refl

pub returns-clause-missing : goal.returns-clause-missing
unfolding digits serde_json_on_literals hex_on_literals
returns-clause-missing c = refl

pub returns-clause-doubled : goal.returns-clause-doubled
unfolding digits serde_json_on_literals hex_on_literals
returns-clause-doubled c = refl

pub returns-clause-extra : goal.returns-clause-extra
unfolding digits serde_json_on_literals hex_on_literals
returns-clause-extra c = refl

pub returns-clause-unknown : goal.returns-clause-unknown
unfolding digits serde_json_on_literals hex_on_literals
returns-clause-unknown c = refl

pub returns-clause-actor : goal.returns-clause-actor
unfolding digits serde_json_on_literals hex_on_literals
returns-clause-actor c = refl

pub returns-clause-range : goal.returns-clause-range
unfolding digits serde_json_on_literals hex_on_literals
returns-clause-range c = refl

pub returns-clause-name : goal.returns-clause-name
unfolding digits serde_json_on_literals hex_on_literals
returns-clause-name c = refl

pub returns-clause-upper : goal.returns-clause-upper
unfolding digits serde_json_on_literals hex_on_literals
returns-clause-upper c = refl

pub returns-clause-list : goal.returns-clause-list
unfolding digits serde_json_on_literals hex_on_literals
returns-clause-list c = refl
