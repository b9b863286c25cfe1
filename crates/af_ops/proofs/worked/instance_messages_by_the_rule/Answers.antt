use Rattle.std.proofs.Common.{refl}
use Rattle.std.specs.Fmt.{digits}
use Rattle.json.specs.Print.{escape_byte}
use Rattle.af_names.specs.CivilDays.{civil_day}
use Rattle.af_ops.proofs.worked.instance_messages_by_the_rule.Goals as goal

pub returns-clause-shown : goal.returns-clause-shown
unfolding digits escape_byte civil_day
returns-clause-shown c = refl

pub returns-clause-listed : goal.returns-clause-listed
unfolding digits escape_byte civil_day
returns-clause-listed c = refl

pub returns-clause-absent : goal.returns-clause-absent
unfolding digits escape_byte civil_day
returns-clause-absent c = refl

pub returns-clause-no_run : goal.returns-clause-no_run
unfolding digits escape_byte civil_day
returns-clause-no_run c = refl

pub returns-clause-denied : goal.returns-clause-denied
unfolding digits escape_byte civil_day
returns-clause-denied c = refl
