use Rattle.std.proofs.Common.{arith}
use Rattle.af_base.proofs.TakingLemmas.{item_taken, items_taken}
use Rattle.af_ops.specs.PolicyBodies.{pair_text_taken}
use Rattle.af_ops.proofs.policy_members.read_pair_texts.Goals as goal

pub loop-item-preserved : goal.loop-item-preserved
loop-item-preserved c =
    item_taken pair_text_taken c.args.items.now _ c.loop-item.item-index c.item-item.result c.loop-item.texts.items c.add_pair_text.new.texts.items (omega arith) c.item-item.is c.in_ok-add_pair_text.ensures c.loop-item.invariant

pub returns : goal.returns
returns c =
    items_taken pair_text_taken c.args.items.now _ c.loop-item.item-index c.loop-item.texts.items (omega arith) c.loop-item.invariant
