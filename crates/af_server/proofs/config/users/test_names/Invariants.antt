use Rattle.std.proofs.Common.{◌≡◌, drop, map}
use Rattle.af_base.specs.JsonValue.{view}
use Rattle.af_base.specs.Readings.{taking, tested}
use Rattle.af_server.specs.Accounts.{name_text_in}
use Rattle.af_server.proofs.config.users.test_names.Given as goal

-- the items that are left decide the whole
abbrev pub invariant-loop-item : goal.invariant-loop-item
invariant-loop-item l =
    taking (tested name_text_in) tt (map view (drop l.item-index l.items)) ≡ taking (tested name_text_in) tt (map view l.items)
