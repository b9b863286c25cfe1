use Rattle.af_server.proofs.ReportLawLemmas.{connections_are_calls}
use Rattle.af_server.proofs.laws.connections_are_calls.Goals as goal

pub returns : goal.returns
returns g c = connections_are_calls g.R.Machine.behaviour.tells
