use Rattle.af_http.proofs.LawLemmas.{begins_one}
use Rattle.af_http.proofs.laws.one_request.Goals as goal

pub returns : goal.returns
returns c = begins_one
