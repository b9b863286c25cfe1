use Rattle.std.proofs.Common.{◌≡◌, ◌++◌, drop}
use Rattle.af_store.proofs.PieceLemmas.{items_left}
use Rattle.af_store.proofs.piece.put_list.Given as goal

-- with the tokens of the items that are left, all are there
abbrev pub invariant-loop-item : goal.invariant-loop-item
invariant-loop-item g l =
    l.out ++ items_left g.T.Piece.told (drop l.item-index l.items) ≡ l.initial.out ++ items_left g.T.Piece.told l.items
