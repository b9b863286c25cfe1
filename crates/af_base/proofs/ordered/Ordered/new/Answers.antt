use Rattle.af_base.proofs.OrderedLemmas.{order-empty}
use Rattle.af_base.proofs.ordered.Ordered.new.Goals as goal

pub invariant_of-result : goal.invariant_of-result
invariant_of-result g c = rw c.new.ensures.items (order-empty g.T.Keyed.key_of)
