use Rattle.af_server.proofs.ReportLawLemmas.{workers_agree}
use Rattle.af_server.proofs.laws.workers_agree.Goals as goal

pub returns : goal.returns
returns g c = workers_agree g.R.Machine.behaviour c.sessions_agree.ensures
