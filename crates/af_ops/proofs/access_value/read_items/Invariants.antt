use Rattle.std.proofs.Common.{◌≡◌, drop, map, []}
use Rattle.af_base.specs.JsonValue.{view}
use Rattle.af_base.specs.Readings.{taking}
use Rattle.af_ops.specs.AccessTexts.{text_taken}
use Rattle.af_ops.proofs.access_value.read_items.Given as goal

-- the items that are left decide the whole
abbrev pub invariant-loop-item : goal.invariant-loop-item
invariant-loop-item g l =
    taking (text_taken l.wrong) l.texts.items (map view (drop l.item-index l.items)) ≡ taking (text_taken l.wrong) [] (map view l.items)
