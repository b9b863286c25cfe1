use Rattle.std.proofs.Common.{refl}
use Rattle.std.specs.Fmt.{digits}
use Rattle.json.specs.Print.{escape_byte}
use Rattle.af_names.specs.CivilDays.{civil_day}
use Rattle.af_ops.proofs.worked_clears.clear_messages_by_the_rule.Goals as goal

pub returns-clause-told : goal.returns-clause-told
unfolding digits escape_byte civil_day
returns-clause-told c = refl

pub returns-clause-none : goal.returns-clause-none
unfolding digits escape_byte civil_day
returns-clause-none c = refl

pub returns-clause-denied : goal.returns-clause-denied
unfolding digits escape_byte civil_day
returns-clause-denied c = refl

pub returns-clause-no_run : goal.returns-clause-no_run
unfolding digits escape_byte civil_day
returns-clause-no_run c = refl

pub returns-clause-no_task : goal.returns-clause-no_task
unfolding digits escape_byte civil_day
returns-clause-no_task c = refl
