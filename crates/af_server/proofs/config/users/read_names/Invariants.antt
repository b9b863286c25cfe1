use Rattle.std.proofs.Common.{◌≡◌, drop, map, []}
use Rattle.af_base.specs.JsonValue.{view}
use Rattle.af_base.specs.Readings.{taking}
use Rattle.af_server.specs.Accounts.{name_taken}
use Rattle.af_server.proofs.config.users.read_names.Given as goal

-- the items that are left decide the whole
abbrev pub invariant-loop-item : goal.invariant-loop-item
invariant-loop-item l =
    taking name_taken l.roles.items (map view (drop l.item-index l.items)) ≡ taking name_taken [] (map view l.items)
