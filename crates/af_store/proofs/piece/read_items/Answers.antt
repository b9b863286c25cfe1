use Rattle.std.proofs.Common.{arith}
use Rattle.af_base.proofs.TakingLemmas.{item_taken, items_taken}
use Rattle.af_store.specs.Members.{taken}
use Rattle.af_store.proofs.piece.read_items.Goals as goal

pub loop-value-preserved : goal.loop-value-preserved
loop-value-preserved g c =
    item_taken (taken g.T.Piece.read_as) c.args.values.now _ c.loop-value.value-index c.value-item.result c.loop-value.items.items c.add_item.new.items.items (omega arith) c.value-item.is c.in_ok-add_item.ensures c.loop-value.invariant

pub returns : goal.returns
returns g c =
    items_taken (taken g.T.Piece.read_as) c.args.values.now _ c.loop-value.value-index c.loop-value.items.items (omega arith) c.loop-value.invariant
