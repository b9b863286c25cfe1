use Rattle.af_listing.proofs.LawLemmas.{pages_make_the_listing}
use Rattle.af_listing.proofs.laws.pages_make_the_listing.Goals as goal

pub returns : goal.returns
returns g c = pages_make_the_listing
