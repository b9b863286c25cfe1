use Rattle.af_word.proofs.RunLemmas.{seats_agree}
use Rattle.af_word.proofs.laws.seats_know_one_place.Goals as goal

pub returns : goal.returns
returns c = seats_agree
