use Rattle.std.proofs.Common.{refl}
use Rattle.af_policy.proofs.OrderLemmas.{ascend_nil}
use Rattle.af_policy.proofs.shared.table.Table.new.Goals as goal

pub invariant_of-result : goal.invariant_of-result
invariant_of-result g c = (ascend_nil g.T.Row.key, refl)
