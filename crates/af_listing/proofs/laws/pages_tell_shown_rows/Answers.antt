use Rattle.af_listing.proofs.LawLemmas.{pages_tell_shown_rows}
use Rattle.af_listing.proofs.laws.pages_tell_shown_rows.Goals as goal

pub returns : goal.returns
returns g c = pages_tell_shown_rows
