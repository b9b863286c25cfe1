use Rattle.std.proofs.Common.{◌≡◌, drop, map}
use Rattle.af_base.specs.JsonValue.{view}
use Rattle.af_base.specs.Readings.{taking}
use Rattle.af_server.specs.VariableRows.{variable_taken}
use Rattle.af_server.proofs.config.variables.add_each.Given as goal

-- the rows that are left decide the whole
abbrev pub invariant-loop-row : goal.invariant-loop-row
invariant-loop-row l =
    taking variable_taken l.draft (map view (drop l.row-index l.rows)) ≡ taking variable_taken l.initial.draft (map view l.rows)
