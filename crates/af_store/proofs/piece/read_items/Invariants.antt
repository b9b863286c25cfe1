use Rattle.std.proofs.Common.{◌≡◌, drop, map, []}
use Rattle.af_base.specs.JsonValue.{view}
use Rattle.af_base.specs.Readings.{taking}
use Rattle.af_store.specs.Members.{taken}
use Rattle.af_store.proofs.piece.read_items.Given as goal

-- the items that are left decide the whole
abbrev pub invariant-loop-value : goal.invariant-loop-value
invariant-loop-value g l =
    taking (taken g.T.Piece.read_as) l.items.items (map view (drop l.value-index l.values)) ≡ taking (taken g.T.Piece.read_as) [] (map view l.values)
