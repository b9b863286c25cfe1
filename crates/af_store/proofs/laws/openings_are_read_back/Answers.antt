use Rattle.af_store.proofs.OpeningLemmas.{opening_of-opening_body}
use Rattle.af_store.proofs.laws.openings_are_read_back.Goals as goal

pub returns : goal.returns
returns c = opening_of-opening_body
