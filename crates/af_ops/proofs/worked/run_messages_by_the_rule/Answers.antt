use Rattle.std.proofs.Common.{refl}
use Rattle.std.specs.Fmt.{digits}
use Rattle.json.specs.Print.{escape_byte}
use Rattle.af_names.specs.CivilDays.{civil_day}
use Rattle.af_ops.specs.Effects.{made_id}
use Rattle.af_ops.proofs.worked.run_messages_by_the_rule.Goals as goal

pub returns-clause-triggered : goal.returns-clause-triggered
unfolding digits escape_byte civil_day made_id
returns-clause-triggered c = refl

pub returns-clause-exists : goal.returns-clause-exists
unfolding digits escape_byte civil_day made_id
returns-clause-exists c = refl

pub returns-clause-taken : goal.returns-clause-taken
unfolding digits escape_byte civil_day made_id
returns-clause-taken c = refl

pub returns-clause-listed : goal.returns-clause-listed
unfolding digits escape_byte civil_day made_id
returns-clause-listed c = refl

pub returns-clause-absent : goal.returns-clause-absent
unfolding digits escape_byte civil_day made_id
returns-clause-absent c = refl

pub returns-clause-denied : goal.returns-clause-denied
unfolding digits escape_byte civil_day made_id
returns-clause-denied c = refl

pub returns-clause-too_many : goal.returns-clause-too_many
unfolding digits escape_byte civil_day made_id
returns-clause-too_many c = refl

pub returns-clause-full : goal.returns-clause-full
unfolding digits escape_byte civil_day made_id
returns-clause-full c = refl
