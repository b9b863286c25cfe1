use Rattle.std.proofs.Common.{refl, sym}
use Rattle.af_policy.specs.SharedTrees.{rows}
use Rattle.af_policy.proofs.ShapeLemmas.{ascend_rest, below_none, below_rest, past_rest, with_at_left, with_at_no_left, with_in_middle, with_at_right, with_in_rest}
use Rattle.af_policy.proofs.shared.change.+with.Goals as goal

pub returns-in_ok-made-in-Some : goal.returns-in_ok-made-in-Some
returns-in_ok-made-in-Some g t c = λ s.
    with_at_left g.T.Row.key c.args.node.now s c.args.row c.in-Some.left c.deref.result.now (rows c.in_ok-left-in-Some.left.value) (rows c.in_ok-made-in-Some.made.value)
    c.in-Some.is c.deref.ensures (sym c.in-Less.ensures) c.in_ok-left-in-Some.ensures c.in_ok-made-in-Some.ensures

pub returns-in_ok-made-in-None : goal.returns-in_ok-made-in-None
returns-in_ok-made-in-None g t c = λ s.
    with_at_no_left g.T.Row.key c.args.node.now s c.args.row (rows c.in_ok-made-in-None.made.value)
    c.in-None.is (sym c.in-Less.ensures) c.in_ok-made-in-None.ensures

pub returns-in_ok-made-in-Equal : goal.returns-in_ok-made-in-Equal
returns-in_ok-made-in-Equal g t c = λ s.
    with_in_middle g.T.Row.key c.args.node.now s c.args.row (rows c.in_ok-made-in-Equal.made.value)
    (sym c.in-Equal.ensures) c.in_ok-made-in-Equal.ensures

pub returns-in_ok-made-in-Some-right : goal.returns-in_ok-made-in-Some-right
returns-in_ok-made-in-Some-right g t c = λ s.
    with_at_right g.T.Row.key c.args.node.now s c.args.row c.in-Some-right.right c.deref-then-is_past.result.now (rows c.in_ok-right-in-Some-right.right.value) (rows c.in_ok-made-in-Some-right.made.value)
    c.in-Some-right.is c.deref-then-is_past.ensures (sym c.in-Greater.ensures)
    (past_rest g.T.Row.key c.args.node.now s (g.T.Row.key c.args.row) _ _ c.as_slice.ensures c.of_row.ensures (c.if-is_past.ensures.past refl))
    c.in_ok-right-in-Some-right.ensures c.in_ok-made-in-Some-right.ensures

pub returns-in_ok-made-in-Some-right-2 : goal.returns-in_ok-made-in-Some-right-2
returns-in_ok-made-in-Some-right-2 g t c = λ s.
    with_in_rest g.T.Row.key c.args.node.now s c.args.row (rows c.in_ok-made-in-Some-right-2.made.value) (sym c.in-Greater.ensures)
    (below_rest g.T.Row.key c.args.node.now s (g.T.Row.key c.args.row) _ _ c.as_slice.ensures c.of_row.ensures (c.if-is_past.ensures.within refl))
    (c.in_ok-made-in-Some-right-2.ensures (ascend_rest g.T.Row.key c.args.node.now s))

pub returns-in_ok-made-in-None-right : goal.returns-in_ok-made-in-None-right
returns-in_ok-made-in-None-right g t c = λ s.
    with_in_rest g.T.Row.key c.args.node.now s c.args.row (rows c.in_ok-made-in-None-right.made.value) (sym c.in-Greater.ensures)
    (below_none g.T.Row.key c.args.node.now s (g.T.Row.key c.args.row) c.in-None-right.is)
    (c.in_ok-made-in-None-right.ensures (ascend_rest g.T.Row.key c.args.node.now s))
