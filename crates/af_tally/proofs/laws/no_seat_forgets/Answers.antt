use Rattle.af_tally.proofs.RunLemmas.{step_remembers}
use Rattle.af_tally.proofs.laws.no_seat_forgets.Goals as goal

pub returns : goal.returns
returns g c = step_remembers
