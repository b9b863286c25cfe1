use Rattle.af_server.proofs.AloneLemmas.{desks_answer_alike}
use Rattle.af_server.proofs.laws.desks_answer_alike.Goals as goal

pub returns : goal.returns
returns c = desks_answer_alike
