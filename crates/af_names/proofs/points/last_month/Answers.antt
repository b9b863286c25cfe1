use Rattle.af_names.specs.Points.{is_first_of_month}
use Rattle.af_names.proofs.PointLemmas.{greatest_midnight}
use Rattle.af_names.proofs.points.last_month.Goals as goal

pub returns : goal.returns
returns c =
    greatest_midnight is_first_of_month c.args.to c.last_first_of_month.result c.last_first_of_month.ensures
