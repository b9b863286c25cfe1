use Rattle.std.proofs.Common.{◌≡◌, arith, ℕ, ◌+◌, ℤ, pos, ◌+ℤ◌}
use Rattle.jiff.proofs.SpanFacts.{signed_arith}
use Rattle.af_names.proofs.CivilDayLemmas.{civil_day_is}
use Rattle.af_names.proofs.days.date_of.Goals as goal

-- the same number, counted from 1970
from_epoch : (z : ℤ) (day : ℕ) → z +ℤ pos 4_371_587 ≡ pos (day + 4_371_587) → z ≡ pos day
from_epoch z day e = omega (arith, signed_arith)

pub returns-clause-year : goal.returns-clause-year
returns-clause-year c =
    let date = c.from_days_since_min.result in
    (civil_day_is date c.args.day (from_epoch _ _ c.from_days_since_min.ensures) c.requires).year

pub returns-clause-month : goal.returns-clause-month
returns-clause-month c =
    let date = c.from_days_since_min.result in
    (civil_day_is date c.args.day (from_epoch _ _ c.from_days_since_min.ensures) c.requires).month

pub returns-clause-day : goal.returns-clause-day
returns-clause-day c =
    let date = c.from_days_since_min.result in
    (civil_day_is date c.args.day (from_epoch _ _ c.from_days_since_min.ensures) c.requires).day
