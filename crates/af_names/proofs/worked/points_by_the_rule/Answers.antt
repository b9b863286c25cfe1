use Rattle.std.proofs.Common.{refl}
use Rattle.af_names.specs.CivilDays.{civil_day}
use Rattle.af_names.proofs.worked.points_by_the_rule.Goals as goal

pub returns-clause-month : goal.returns-clause-month
unfolding civil_day
returns-clause-month c = refl

pub returns-clause-second_day : goal.returns-clause-second_day
unfolding civil_day
returns-clause-second_day c = refl
