use Rattle.af_pool.proofs.SlotLemmas.{occupied_parts}
use Rattle.af_pool.proofs.laws.occupied_is_queued_and_running.Goals as goal

pub returns : goal.returns
returns c = occupied_parts
