use Rattle.af_http.proofs.ToldLemmas.{answers_once}
use Rattle.af_http.proofs.laws.one_answer.Goals as goal

pub returns : goal.returns
returns g c = answers_once g.S.Service.answers
