use Rattle.std.proofs.Common.{◌≡◌, drop, map, []}
use Rattle.af_base.specs.JsonValue.{view}
use Rattle.af_base.specs.Readings.{taking}
use Rattle.af_ops.specs.PolicyBodies.{role_name_taken}
use Rattle.af_ops.proofs.policy_members.read_role_names.Given as goal

-- the items that are left decide the whole
abbrev pub invariant-loop-item : goal.invariant-loop-item
invariant-loop-item l =
    taking role_name_taken l.names.items (map view (drop l.item-index l.items)) ≡ taking role_name_taken [] (map view l.items)
