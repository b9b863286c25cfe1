use Rattle.af_listing.proofs.LawLemmas.{hidden_rows_are_not_told}
use Rattle.af_listing.proofs.laws.hidden_rows_are_not_told.Goals as goal

pub returns : goal.returns
returns g c = hidden_rows_are_not_told
