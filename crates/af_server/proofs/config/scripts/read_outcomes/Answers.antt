use Rattle.std.proofs.Common.{arith}
use Rattle.af_base.proofs.TakingLemmas.{item_taken, items_taken}
use Rattle.af_server.specs.Tasks.{outcome_taken}
use Rattle.af_server.proofs.config.scripts.read_outcomes.Goals as goal

pub loop-value-preserved : goal.loop-value-preserved
loop-value-preserved c =
    item_taken outcome_taken c.args.values.now _ c.loop-value.value-index c.value-item.result c.loop-value.outcomes.items c.add_outcome.new.outcomes.items (omega arith) c.value-item.is c.in_ok-add_outcome.ensures c.loop-value.invariant

pub returns : goal.returns
returns c =
    items_taken outcome_taken c.args.values.now _ c.loop-value.value-index c.loop-value.outcomes.items (omega arith) c.loop-value.invariant
