use Rattle.std.proofs.Common.{arith}
use Rattle.af_base.proofs.TakingLemmas.{item_taken, items_taken}
use Rattle.af_server.specs.Accounts.{pair_taken}
use Rattle.af_server.proofs.config.roles.read_pairs.Goals as goal

pub loop-item-preserved : goal.loop-item-preserved
loop-item-preserved c =
    item_taken pair_taken c.args.items.now _ c.loop-item.item-index c.item-item.result c.loop-item.permissions c.add_pair.new.permissions (omega arith) c.item-item.is c.in_ok-add_pair.ensures c.loop-item.invariant

pub returns : goal.returns
returns c =
    items_taken pair_taken c.args.items.now _ c.loop-item.item-index c.loop-item.permissions (omega arith) c.loop-item.invariant
