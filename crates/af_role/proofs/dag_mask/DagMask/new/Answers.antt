use Rattle.std.proofs.Common.{refl}
use Rattle.af_base.proofs.OrderedLemmas.{order-empty}
use Rattle.af_role.specs.DagMasks.{id_of}
use Rattle.af_role.proofs.dag_mask.DagMask.new.Goals as goal

pub invariant_of-result : goal.invariant_of-result
invariant_of-result c = rw c.new.ensures.items (order-empty id_of, refl)
