use Rattle.std.proofs.Common.{◌≡◌, drop, map}
use Rattle.af_base.specs.JsonValue.{view}
use Rattle.af_base.specs.Readings.{taking, tested}
use Rattle.af_server.specs.Tasks.{text_of}
use Rattle.af_server.proofs.config.upstream.test_texts.Given as goal

-- the items that are left decide the whole
abbrev pub invariant-loop-value : goal.invariant-loop-value
invariant-loop-value l =
    taking (tested text_of) tt (map view (drop l.value-index l.values)) ≡ taking (tested text_of) tt (map view l.values)
