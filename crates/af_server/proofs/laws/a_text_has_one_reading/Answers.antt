use Rattle.af_server.proofs.AloneLemmas.{one_reading}
use Rattle.af_server.proofs.laws.a_text_has_one_reading.Goals as goal

pub returns : goal.returns
returns c = one_reading
