use Rattle.af_pool.proofs.SlotLemmas.{open_fills}
use Rattle.af_pool.proofs.laws.open_fills_the_pool.Goals as goal

pub returns : goal.returns
returns c = open_fills
