use Rattle.std.proofs.Common.{◌≡◌, take}
use Rattle.af_policy.specs.SharedRows.{seen}
use Rattle.af_policy.specs.Shown.{in_order}
use Rattle.af_policy.proofs.user_shown.in_order.Given as goal

abbrev pub invariant-loop-name : goal.invariant-loop-name
invariant-loop-name l = seen l.order.items ≡ in_order (take l.name-index l.names)
