use Rattle.af_world.proofs.AnswerLemmas.{denials}
use Rattle.af_world.proofs.laws.denials_name_the_first.Goals as goal

pub returns : goal.returns
returns c = denials
