use Rattle.af_listing.proofs.LawLemmas.{numbers_may_be_cut}
use Rattle.af_listing.proofs.laws.numbers_may_be_cut.Goals as goal

pub returns : goal.returns
returns g c = numbers_may_be_cut
