use Rattle.std.proofs.Common.{◌≡◌, drop, map}
use Rattle.af_base.specs.JsonValue.{view}
use Rattle.af_base.specs.Readings.{taking}
use Rattle.af_server.specs.Accesses.{access_taken}
use Rattle.af_server.proofs.config.access.sync_rows.Given as goal

-- the rows that are left decide the whole
abbrev pub invariant-loop-row : goal.invariant-loop-row
invariant-loop-row l =
    taking access_taken l.policy (map view (drop l.row-index l.rows)) ≡ taking access_taken l.initial.policy (map view l.rows)
