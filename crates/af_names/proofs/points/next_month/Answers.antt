use Rattle.af_names.specs.Points.{is_first_of_month}
use Rattle.af_names.proofs.PointLemmas.{least_midnight}
use Rattle.af_names.proofs.points.next_month.Goals as goal

pub returns : goal.returns
returns c =
    least_midnight is_first_of_month c.args.from c.next_first_of_month.result
    (rw c.div_ceil.ensures at c.next_first_of_month.ensures.least)
