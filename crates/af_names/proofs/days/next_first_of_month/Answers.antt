use Rattle.std.proofs.Common.{◌≡◌, arith, ◌∙◌, FitsSigned, w16}
use Rattle.std.proofs.lemmas.Int.{to_z-of_z}
use Rattle.jiff.proofs.SpanFacts.{signed_arith}
use Rattle.jiff_core.specs.Calendar.{days_in_month}
use Rattle.af_names.specs.CivilDays.{civil_day}
use Rattle.af_names.proofs.MonthLemmas.{least_first, length_of}
use Rattle.af_names.proofs.days.next_first_of_month.Goals as goal

pub returns-clause-least : goal.returns-clause-least
returns-clause-least c =
    let date = c.date_of-date.result in
    let shown = c.date_of-date.ensures in
    let year_in = date.year_in in
    let day_in = date.day_in in
    let fits : FitsSigned w16 date.year = omega (arith, signed_arith) in
    let length : c.days_in_month.result ≡ days_in_month date.year date.month = simp to_z-of_z at c.days_in_month.ensures.value in
    let same : days_in_month date.year date.month ≡ length_of (civil_day c.args.day) = λ i. days_in_month (shown.year i) (shown.month i) in
    let whole = length ∙ same in
    let day = shown.day in
    let rest = c.from.ensures in
    let after = c.if-date-eq1.false in
    least_first c.args.day c.from.result (omega arith) (omega arith)
