use Rattle.af_world.proofs.CountLemmas.{acts_count}
use Rattle.af_world.proofs.laws.acts_count_the_entries.Goals as goal

pub returns : goal.returns
returns c = acts_count
