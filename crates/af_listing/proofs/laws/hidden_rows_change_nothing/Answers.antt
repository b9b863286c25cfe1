use Rattle.af_listing.proofs.LawLemmas.{hidden_rows_change_nothing}
use Rattle.af_listing.proofs.laws.hidden_rows_change_nothing.Goals as goal

pub returns : goal.returns
returns g c = hidden_rows_change_nothing
