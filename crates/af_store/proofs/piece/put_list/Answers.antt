use Rattle.std.proofs.Common.{◌∙◌, ◌++◌, ◌∷◌, [], List, ap, append_assoc, arith, drop, ◌+◌}
use Rattle.json.specs.Token.{Token}
use Rattle.af_store.proofs.PieceLemmas.{items_left, next_item, no_item}
use Rattle.af_store.proofs.piece.put_list.Goals as goal

pub loop-item-preserved : goal.loop-item-preserved
loop-item-preserved g c =
    ap (λ (ts : List Token). ts ++ items_left g.T.Piece.told (drop (c.loop-item.item-index + 1) c.args.items.now)) c.in_ok-put.ensures
    ∙ next_item g.T.Piece.told c.args.items.now c.loop-item.item-index c.item-item.result c.loop-item.out (omega arith) c.item-item.is
    ∙ c.loop-item.invariant

pub returns : goal.returns
returns g c =
    c.in_ok-end_array.ensures ∙ no_item g.T.Piece.told c.args.items.now c.loop-item.item-index c.loop-item.out (omega arith)
    ∙ c.loop-item.invariant ∙ ap (λ (ts : List Token). ts ++ items_left g.T.Piece.told c.args.items.now) c.in_ok-begin_array.ensures
    ∙ append_assoc c.args.out.now (Token.begin_array ∷ []) (items_left g.T.Piece.told c.args.items.now)
