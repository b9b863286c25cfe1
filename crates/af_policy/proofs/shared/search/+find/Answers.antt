use Rattle.std.proofs.Common.{[], refl, ◌∙◌, sym}
use Rattle.af_policy.proofs.ShapeLemmas.{sought_at_left, sought_at_right, sought_in_rest, found_at_left, found_before, found_in_middle, found_at_right, found_in_rest}
use Rattle.af_policy.proofs.shared.search.+find.Goals as goal

pub returns-in-Some : goal.returns-in-Some
returns-in-Some g t c = λ s.
    c.find.ensures (sought_at_left g.T.Row.key [] c.args.node.now s c.in-Some.left c.deref.result.now c.in-Some.is c.deref.ensures)
    ∙ found_at_left g.T.Row.key [] c.args.node.now s c.args.key.now c.in-Some.left c.deref.result.now c.in-Some.is c.deref.ensures
    (sym c.in-Less.ensures)

pub returns-in-None : goal.returns-in-None
returns-in-None g t c = λ s.
    found_before g.T.Row.key [] c.args.node.now s c.args.key.now c.in-None.is
    (sym c.in-Less.ensures)

pub returns-in-Equal : goal.returns-in-Equal
returns-in-Equal g t c = λ s.
    found_in_middle g.T.Row.key [] c.args.node.now s c.args.key.now
    (sym c.in-Equal.ensures)

pub returns-in-Some-right : goal.returns-in-Some-right
returns-in-Some-right g t c = λ s.
    c.find_behind.ensures (sought_at_right g.T.Row.key [] c.args.node.now s _ refl c.in-Some-right.right c.deref-in-Some-right.result.now c.in-Some-right.is c.deref-in-Some-right.ensures)
    ∙ found_at_right g.T.Row.key [] c.args.node.now s c.args.key.now _ refl c.in-Some-right.right c.deref-in-Some-right.result.now c.in-Some-right.is c.deref-in-Some-right.ensures
    (sym c.in-Greater.ensures)

pub returns-in-None-right : goal.returns-in-None-right
returns-in-None-right g t c = λ s.
    c.found_in.ensures (sought_in_rest g.T.Row.key [] c.args.node.now s _ c.as_slice.ensures c.in-None-right.is)
    ∙ found_in_rest g.T.Row.key [] c.args.node.now s c.args.key.now _ c.as_slice.ensures c.in-None-right.is
    (sym c.in-Greater.ensures)
