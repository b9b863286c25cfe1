use Rattle.af_listing.proofs.LawLemmas.{whole_listings_are_cut}
use Rattle.af_listing.proofs.laws.whole_listings_are_cut.Goals as goal

pub returns : goal.returns
returns g c = whole_listings_are_cut
