use Rattle.af_world.proofs.AnswerLemmas.{strangers}
use Rattle.af_world.proofs.laws.strangers_have_no_user.Goals as goal

pub returns : goal.returns
returns c = strangers
