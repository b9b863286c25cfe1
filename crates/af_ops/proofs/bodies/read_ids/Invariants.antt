use Rattle.std.proofs.Common.{◌≡◌, drop, map, []}
use Rattle.af_base.specs.JsonValue.{view}
use Rattle.af_base.specs.Readings.{taking}
use Rattle.af_ops.specs.Bodies.{id_taken}
use Rattle.af_ops.proofs.bodies.read_ids.Given as goal

-- the items that are left decide the whole
abbrev pub invariant-loop-value : goal.invariant-loop-value
invariant-loop-value l =
    taking id_taken l.ids.items (map view (drop l.value-index l.values)) ≡ taking id_taken [] (map view l.values)
