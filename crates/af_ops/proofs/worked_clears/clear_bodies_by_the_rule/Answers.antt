use Rattle.std.proofs.Common.{refl}
use Rattle.std.specs.Str.{is_utf8, chars}
use Rattle.serde_json.proofs.OnLiterals.{serde_json_on_literals}
use Rattle.af_ops.proofs.worked_clears.clear_bodies_by_the_rule.Goals as goal

pub returns-clause-empty : goal.returns-clause-empty
unfolding serde_json_on_literals is_utf8 chars
returns-clause-empty c = refl

pub returns-clause-each : goal.returns-clause-each
unfolding serde_json_on_literals is_utf8 chars
returns-clause-each c = refl

pub returns-clause-no_ids : goal.returns-clause-no_ids
unfolding serde_json_on_literals is_utf8 chars
returns-clause-no_ids c = refl

pub returns-clause-first : goal.returns-clause-first
unfolding serde_json_on_literals is_utf8 chars
returns-clause-first c = refl

pub returns-clause-no_list : goal.returns-clause-no_list
unfolding serde_json_on_literals is_utf8 chars
returns-clause-no_list c = refl

pub returns-clause-no_id : goal.returns-clause-no_id
unfolding serde_json_on_literals is_utf8 chars
returns-clause-no_id c = refl

pub returns-clause-null_id : goal.returns-clause-null_id
unfolding serde_json_on_literals is_utf8 chars
returns-clause-null_id c = refl

pub returns-clause-run : goal.returns-clause-run
unfolding serde_json_on_literals is_utf8 chars
returns-clause-run c = refl

pub returns-clause-from : goal.returns-clause-from
unfolding serde_json_on_literals is_utf8 chars
returns-clause-from c = refl

pub returns-clause-until : goal.returns-clause-until
unfolding serde_json_on_literals is_utf8 chars
returns-clause-until c = refl

pub returns-clause-run_alone : goal.returns-clause-run_alone
unfolding serde_json_on_literals is_utf8 chars
returns-clause-run_alone c = refl

pub returns-clause-run_done : goal.returns-clause-run_done
unfolding serde_json_on_literals is_utf8 chars
returns-clause-run_done c = refl

pub returns-clause-run_text : goal.returns-clause-run_text
unfolding serde_json_on_literals is_utf8 chars
returns-clause-run_text c = refl

pub returns-clause-list : goal.returns-clause-list
unfolding serde_json_on_literals is_utf8 chars
returns-clause-list c = refl

pub returns-clause-row : goal.returns-clause-row
unfolding serde_json_on_literals is_utf8 chars
returns-clause-row c = refl

pub returns-clause-dag_row : goal.returns-clause-dag_row
unfolding serde_json_on_literals is_utf8 chars
returns-clause-dag_row c = refl
