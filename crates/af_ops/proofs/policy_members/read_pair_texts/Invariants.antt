use Rattle.std.proofs.Common.{◌≡◌, drop, map, []}
use Rattle.af_base.specs.JsonValue.{view}
use Rattle.af_base.specs.Readings.{taking}
use Rattle.af_ops.specs.PolicyBodies.{pair_text_taken}
use Rattle.af_ops.proofs.policy_members.read_pair_texts.Given as goal

-- the items that are left decide the whole
abbrev pub invariant-loop-item : goal.invariant-loop-item
invariant-loop-item l =
    taking pair_text_taken l.texts.items (map view (drop l.item-index l.items)) ≡ taking pair_text_taken [] (map view l.items)
