use Rattle.std.proofs.Common.{◌≡◌, drop, map}
use Rattle.af_base.specs.JsonValue.{view}
use Rattle.af_base.specs.Readings.{taking}
use Rattle.af_trace.specs.Traces.{entry_taken}
use Rattle.af_trace.proofs.reading.add_entries.Given as goal

-- the steps that are left decide the whole
abbrev pub invariant-loop-entry : goal.invariant-loop-entry
invariant-loop-entry l =
    taking entry_taken l.trace (map view (drop l.entry-index l.entries)) ≡ taking entry_taken l.initial.trace (map view l.entries)
