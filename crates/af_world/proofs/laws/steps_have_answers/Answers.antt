use Rattle.af_world.proofs.TickTakenLemmas.{steps_have_answers}
use Rattle.af_world.proofs.laws.steps_have_answers.Goals as goal

pub returns : goal.returns
returns c = steps_have_answers
