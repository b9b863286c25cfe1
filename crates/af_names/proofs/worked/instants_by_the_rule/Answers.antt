use Rattle.std.proofs.Common.{refl}
use Rattle.jiff.proofs.OnLiterals.{jiff_on_literals}
use Rattle.af_names.specs.CivilDays.{civil_day}
use Rattle.af_names.proofs.worked.instants_by_the_rule.Goals as goal

pub returns-clause-cut : goal.returns-clause-cut
unfolding jiff_on_literals
returns-clause-cut c = refl

pub returns-clause-before : goal.returns-clause-before
unfolding jiff_on_literals
returns-clause-before c = refl

pub returns-clause-last : goal.returns-clause-last
unfolding jiff_on_literals
returns-clause-last c = refl

pub returns-clause-month : goal.returns-clause-month
unfolding jiff_on_literals
returns-clause-month c = refl

pub returns-clause-fraction : goal.returns-clause-fraction
unfolding civil_day
returns-clause-fraction c = refl

pub returns-clause-whole : goal.returns-clause-whole
unfolding civil_day
returns-clause-whole c = refl
