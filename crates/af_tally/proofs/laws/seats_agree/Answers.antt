use Rattle.af_tally.proofs.RunLemmas.{seats_agreed}
use Rattle.af_tally.proofs.laws.seats_agree.Goals as goal

pub returns : goal.returns
returns g c = seats_agreed
