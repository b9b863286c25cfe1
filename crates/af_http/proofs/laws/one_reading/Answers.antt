use Rattle.af_http.proofs.LawLemmas.{runs_one}
use Rattle.af_http.proofs.laws.one_reading.Goals as goal

pub returns : goal.returns
returns g c = runs_one g.S.Service.answers
