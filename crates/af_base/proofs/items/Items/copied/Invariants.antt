use Rattle.std.proofs.Common.{◌≡◌, take}
use Rattle.af_base.proofs.items.Items.copied.Given as goal

-- what was copied are the items so far
abbrev pub invariant-loop-item : goal.invariant-loop-item
invariant-loop-item g l = l.items.items ≡ take l.item-index l.item-items
