use Rattle.std.proofs.Common.{refl, arith, ◌∙◌}
use Rattle.af_ops.proofs.InstantLemmas.{date_of}
use Rattle.af_ops.proofs.instant_digits.day_parts.Goals as goal

pub overflow_cast-result : goal.overflow_cast-result
overflow_cast-result c =
    let date = date_of c.args.number c.from_days_since_min-date.result c.requires c.from_days_since_min-date.ensures in
    rw (date.year) (tt, record { fits = omega (arith, date.few) })

pub returns-clause-year : goal.returns-clause-year
returns-clause-year c =
    let date = date_of c.args.number c.from_days_since_min-date.result c.requires c.from_days_since_min-date.ensures in
    rw (date.year) refl

pub returns-clause-month : goal.returns-clause-month
returns-clause-month c =
    c.from.ensures ∙ (date_of c.args.number c.from_days_since_min-date.result c.requires c.from_days_since_min-date.ensures).month

pub returns-clause-day : goal.returns-clause-day
returns-clause-day c =
    c.from-2.ensures ∙ (date_of c.args.number c.from_days_since_min-date.result c.requires c.from_days_since_min-date.ensures).day
