use Rattle.af_sched.proofs.PointsLemmas.{points_of_a_range}
use Rattle.af_sched.proofs.laws.a_range_has_the_points_between_its_dates.Goals as goal

pub returns : goal.returns
returns c = points_of_a_range
