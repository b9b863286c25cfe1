use Rattle.af_world.proofs.AnswerLemmas.{answers_granted}
use Rattle.af_world.proofs.laws.answers_are_granted.Goals as goal

pub returns : goal.returns
returns c = answers_granted
