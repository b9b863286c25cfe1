use Rattle.std.proofs.Common.{arith}
use Rattle.af_base.proofs.TakingLemmas.{item_taken, items_taken}
use Rattle.af_ops.specs.AccessTexts.{text_taken}
use Rattle.af_ops.proofs.access_value.read_items.Goals as goal

pub loop-item-preserved : goal.loop-item-preserved
loop-item-preserved g c =
    item_taken (text_taken c.args.wrong) c.args.items.now _ c.loop-item.item-index c.item-item.result c.loop-item.texts.items c.add_text.new.texts.items (omega arith) c.item-item.is c.in_ok-add_text.ensures c.loop-item.invariant

pub returns : goal.returns
returns g c =
    items_taken (text_taken c.args.wrong) c.args.items.now _ c.loop-item.item-index c.loop-item.texts.items (omega arith) c.loop-item.invariant
