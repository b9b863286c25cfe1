use Rattle.af_world.proofs.ListingLemmas.{dag_listings}
use Rattle.af_world.proofs.laws.listings_of_a_dag_are_read.Goals as goal

pub returns : goal.returns
returns c = dag_listings
