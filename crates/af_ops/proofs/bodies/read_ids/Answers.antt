use Rattle.std.proofs.Common.{arith}
use Rattle.af_base.proofs.TakingLemmas.{item_taken, items_taken}
use Rattle.af_ops.specs.Bodies.{id_taken}
use Rattle.af_ops.proofs.bodies.read_ids.Goals as goal

pub loop-value-preserved : goal.loop-value-preserved
loop-value-preserved c =
    item_taken id_taken c.args.values.now _ c.loop-value.value-index c.value-item.result c.loop-value.ids.items c.add_id.new.ids.items (omega arith) c.value-item.is c.in_ok-add_id.ensures c.loop-value.invariant

pub returns : goal.returns
returns c =
    items_taken id_taken c.args.values.now _ c.loop-value.value-index c.loop-value.ids.items (omega arith) c.loop-value.invariant
