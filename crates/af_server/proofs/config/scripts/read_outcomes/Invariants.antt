use Rattle.std.proofs.Common.{◌≡◌, drop, map, []}
use Rattle.af_base.specs.JsonValue.{view}
use Rattle.af_base.specs.Readings.{taking}
use Rattle.af_server.specs.Tasks.{outcome_taken}
use Rattle.af_server.proofs.config.scripts.read_outcomes.Given as goal

-- the items that are left decide the whole
abbrev pub invariant-loop-value : goal.invariant-loop-value
invariant-loop-value l =
    taking outcome_taken l.outcomes.items (map view (drop l.value-index l.values)) ≡ taking outcome_taken [] (map view l.values)
