use Rattle.std.proofs.Common.{arith, ◌-◌}
use Rattle.af_names.proofs.MonthLemmas.{day_bound, greatest_first}
use Rattle.af_names.proofs.days.last_first_of_month.Goals as goal

pub overflow_sub-result : goal.overflow_sub-result
overflow_sub-result c =
    let bound = day_bound c.args.day in
    let day = c.date_of.ensures.day in
    let back = c.from.ensures in
    omega arith

pub returns : goal.returns
returns c =
    let bound = day_bound c.args.day in
    let some = c.date_of.result.day_in.0 in
    let day = c.date_of.ensures.day in
    let back = c.from.ensures in
    greatest_first c.args.day c.from.result (c.args.day - c.from.result) (omega arith) (omega arith)
