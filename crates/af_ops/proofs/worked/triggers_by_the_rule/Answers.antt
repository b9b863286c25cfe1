use Rattle.std.proofs.Common.{refl}
use Rattle.std.specs.Str.{is_utf8, chars}
use Rattle.serde_json.proofs.OnLiterals.{serde_json_on_literals}
use Rattle.af_ops.proofs.worked.triggers_by_the_rule.Goals as goal

pub returns-clause-empty : goal.returns-clause-empty
unfolding serde_json_on_literals is_utf8 chars
returns-clause-empty c = refl

pub returns-clause-given : goal.returns-clause-given
unfolding serde_json_on_literals is_utf8 chars
returns-clause-given c = refl

pub returns-clause-list : goal.returns-clause-list
unfolding serde_json_on_literals is_utf8 chars
returns-clause-list c = refl

pub returns-clause-each : goal.returns-clause-each
unfolding serde_json_on_literals is_utf8 chars
returns-clause-each c = refl

pub returns-clause-date : goal.returns-clause-date
unfolding serde_json_on_literals is_utf8 chars
returns-clause-date c = refl

pub returns-clause-older_date : goal.returns-clause-older_date
unfolding serde_json_on_literals is_utf8 chars
returns-clause-older_date c = refl

pub returns-clause-conf : goal.returns-clause-conf
unfolding serde_json_on_literals is_utf8 chars
returns-clause-conf c = refl

pub returns-clause-older_dated : goal.returns-clause-older_dated
unfolding serde_json_on_literals is_utf8 chars
returns-clause-older_dated c = refl

pub returns-clause-null_date : goal.returns-clause-null_date
unfolding serde_json_on_literals is_utf8 chars
returns-clause-null_date c = refl

pub returns-clause-newer_dated : goal.returns-clause-newer_dated
unfolding serde_json_on_literals is_utf8 chars
returns-clause-newer_dated c = refl
