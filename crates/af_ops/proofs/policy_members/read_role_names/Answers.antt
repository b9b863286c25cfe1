use Rattle.std.proofs.Common.{arith}
use Rattle.af_base.proofs.TakingLemmas.{item_taken, items_taken}
use Rattle.af_ops.specs.PolicyBodies.{role_name_taken}
use Rattle.af_ops.proofs.policy_members.read_role_names.Goals as goal

pub loop-item-preserved : goal.loop-item-preserved
loop-item-preserved c =
    item_taken role_name_taken c.args.items.now _ c.loop-item.item-index c.item-item.result c.loop-item.names.items c.add_role_name.new.names.items (omega arith) c.item-item.is c.in_ok-add_role_name.ensures c.loop-item.invariant

pub returns : goal.returns
returns c =
    items_taken role_name_taken c.args.items.now _ c.loop-item.item-index c.loop-item.names.items (omega arith) c.loop-item.invariant
