use Rattle.std.proofs.Common.{refl}
use Rattle.std.specs.Fmt.{digits}
use Rattle.std.specs.Str.{is_utf8, chars}
use Rattle.json.specs.Print.{escape_byte}
use Rattle.serde_json.proofs.OnLiterals.{serde_json_on_literals}
use Rattle.af_names.specs.CivilDays.{civil_day}
use Rattle.af_ops.proofs.worked.mark_messages_by_the_rule.Goals as goal

pub returns-clause-told : goal.returns-clause-told
unfolding digits escape_byte civil_day
returns-clause-told c = refl

pub returns-clause-denied : goal.returns-clause-denied
unfolding digits escape_byte civil_day
returns-clause-denied c = refl

pub returns-clause-bad_member : goal.returns-clause-bad_member
unfolding digits escape_byte civil_day
returns-clause-bad_member c = refl

pub returns-clause-absent : goal.returns-clause-absent
unfolding digits escape_byte civil_day
returns-clause-absent c = refl

pub returns-clause-failed : goal.returns-clause-failed
unfolding serde_json_on_literals is_utf8 chars
returns-clause-failed c = refl

pub returns-clause-running : goal.returns-clause-running
unfolding serde_json_on_literals is_utf8 chars
returns-clause-running c = refl

pub returns-clause-no_state : goal.returns-clause-no_state
unfolding serde_json_on_literals is_utf8 chars
returns-clause-no_state c = refl

pub returns-clause-truth : goal.returns-clause-truth
unfolding serde_json_on_literals is_utf8 chars
returns-clause-truth c = refl

pub returns-clause-list : goal.returns-clause-list
unfolding serde_json_on_literals is_utf8 chars
returns-clause-list c = refl
