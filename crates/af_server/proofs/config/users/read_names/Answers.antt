use Rattle.std.proofs.Common.{arith}
use Rattle.af_base.proofs.TakingLemmas.{item_taken, items_taken}
use Rattle.af_server.specs.Accounts.{name_taken}
use Rattle.af_server.proofs.config.users.read_names.Goals as goal

pub loop-item-preserved : goal.loop-item-preserved
loop-item-preserved c =
    item_taken name_taken c.args.items.now _ c.loop-item.item-index c.item-item.result c.loop-item.roles.items c.add_name.new.roles.items (omega arith) c.item-item.is c.in_ok-add_name.ensures c.loop-item.invariant

pub returns : goal.returns
returns c =
    items_taken name_taken c.args.items.now _ c.loop-item.item-index c.loop-item.roles.items (omega arith) c.loop-item.invariant
