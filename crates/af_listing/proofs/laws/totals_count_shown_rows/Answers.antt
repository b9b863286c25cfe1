use Rattle.af_listing.proofs.LawLemmas.{totals_count_shown_rows}
use Rattle.af_listing.proofs.laws.totals_count_shown_rows.Goals as goal

pub returns : goal.returns
returns g c = totals_count_shown_rows
