use Rattle.std.proofs.Common.{◌≡◌, drop, map, []}
use Rattle.af_base.specs.JsonValue.{view}
use Rattle.af_base.specs.Readings.{taking}
use Rattle.af_server.specs.Accounts.{pair_taken}
use Rattle.af_server.proofs.config.roles.read_pairs.Given as goal

-- the items that are left decide the whole
abbrev pub invariant-loop-item : goal.invariant-loop-item
invariant-loop-item l =
    taking pair_taken l.permissions (map view (drop l.item-index l.items)) ≡ taking pair_taken [] (map view l.items)
