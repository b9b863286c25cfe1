use Rattle.af_word.proofs.RunLemmas.{step_remembers}
use Rattle.af_word.proofs.laws.no_seat_forgets.Goals as goal

pub returns : goal.returns
returns c = step_remembers
