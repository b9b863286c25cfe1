use Rattle.std.proofs.Common.{◌∙◌, sym}
use Rattle.af_policy.proofs.OrderLemmas.{ascend_low, ascend_above, found_low, found_at_cut, found_above}
use Rattle.af_policy.proofs.shared.run.+found_in.Goals as goal

pub returns-in-Less : goal.returns-in-Less
returns-in-Less g t c = λ s.
    c.found_in.ensures (ascend_low g.T.Row.key c.args.rows.now _ _ _ _ c.split_at.ensures.by_index.0 c.in-Some.ensures.cases.0 s)
    ∙ found_low g.T.Row.key c.args.rows.now _ _ _ _ c.split_at.ensures.by_index.0 c.in-Some.ensures.cases.0 s c.args.key.now (sym c.in-Less.ensures)

pub returns-in-Equal : goal.returns-in-Equal
returns-in-Equal g t c = λ s.
    found_at_cut g.T.Row.key c.args.rows.now _ _ _ _ c.split_at.ensures.by_index.0 c.in-Some.ensures.cases.0 s c.args.key.now (sym c.in-Equal.ensures)

pub returns-in-Greater : goal.returns-in-Greater
returns-in-Greater g t c = λ s.
    c.found_in-in-Greater.ensures (ascend_above g.T.Row.key c.args.rows.now _ _ _ _ c.split_at.ensures.by_index.0 c.in-Some.ensures.cases.0 s)
    ∙ found_above g.T.Row.key c.args.rows.now _ _ _ _ c.split_at.ensures.by_index.0 c.in-Some.ensures.cases.0 s c.args.key.now (sym c.in-Greater.ensures)
