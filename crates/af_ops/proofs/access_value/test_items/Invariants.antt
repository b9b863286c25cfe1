use Rattle.std.proofs.Common.{◌≡◌, drop, map}
use Rattle.af_base.specs.JsonValue.{view}
use Rattle.af_base.specs.Readings.{first_fault}
use Rattle.af_ops.specs.AccessTexts.{is_text}
use Rattle.af_ops.proofs.access_value.test_items.Given as goal

-- the items that are left decide the whole
abbrev pub invariant-loop-item : goal.invariant-loop-item
invariant-loop-item g l =
    first_fault (is_text l.wrong) (map view (drop l.item-index l.items)) ≡ first_fault (is_text l.wrong) (map view l.items)
