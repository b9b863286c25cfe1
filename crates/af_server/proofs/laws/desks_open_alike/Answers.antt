use Rattle.af_server.proofs.AloneLemmas.{desks_open_alike}
use Rattle.af_server.proofs.laws.desks_open_alike.Goals as goal

pub returns : goal.returns
returns c = desks_open_alike
