use Rattle.std.proofs.Common.{arith}
use Rattle.af_base.proofs.TakingLemmas.{item_taken, items_taken}
use Rattle.af_trace.specs.Traces.{entry_taken}
use Rattle.af_trace.proofs.reading.add_entries.Goals as goal

pub loop-entry-preserved : goal.loop-entry-preserved
loop-entry-preserved c =
    item_taken entry_taken c.args.entries.now _ c.loop-entry.entry-index c.entry-item.result c.loop-entry.trace c.add_entry.new.trace (omega arith) c.entry-item.is c.in_ok-add_entry.ensures c.loop-entry.invariant

pub returns : goal.returns
returns c =
    items_taken entry_taken c.args.entries.now _ c.loop-entry.entry-index c.loop-entry.trace (omega arith) c.loop-entry.invariant
