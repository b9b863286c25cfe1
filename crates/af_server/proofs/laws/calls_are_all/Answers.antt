use Rattle.af_server.proofs.AloneRunLemmas.{calls_are_all}
use Rattle.af_server.proofs.laws.calls_are_all.Goals as goal

pub returns : goal.returns
returns c = calls_are_all
