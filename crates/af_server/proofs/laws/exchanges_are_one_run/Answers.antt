use Rattle.af_server.proofs.LawLemmas.{exchanges_are_one_run}
use Rattle.af_server.proofs.laws.exchanges_are_one_run.Goals as goal

pub returns : goal.returns
returns c = exchanges_are_one_run
