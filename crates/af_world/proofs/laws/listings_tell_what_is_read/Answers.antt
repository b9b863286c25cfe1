use Rattle.af_world.proofs.ListingLemmas.{listings}
use Rattle.af_world.proofs.laws.listings_tell_what_is_read.Goals as goal

pub returns : goal.returns
returns c = listings
