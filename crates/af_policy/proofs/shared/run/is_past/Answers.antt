use Rattle.std.proofs.Common.{sym}
use Rattle.af_policy.proofs.OrderLemmas.{all_past, all_behind_less, all_behind_equal}
use Rattle.af_policy.proofs.shared.run.is_past.Goals as goal

pub returns-in-Less-clause-within : goal.returns-in-Less-clause-within
returns-in-Less-clause-within g c = λ _ more s.
    all_behind_less g.T.Row.key c.args.key.now c.args.rows.now _ c.in-Some.last.now more c.in-Some.ensures.cases.0 s (sym c.in-Less.ensures)

pub returns-in-Equal-clause-within : goal.returns-in-Equal-clause-within
returns-in-Equal-clause-within g c = λ _ more s.
    all_behind_equal g.T.Row.key c.args.key.now c.args.rows.now _ c.in-Some.last.now more c.in-Some.ensures.cases.0 s (sym c.in-Equal.ensures)

pub returns-in-Greater-clause-past : goal.returns-in-Greater-clause-past
returns-in-Greater-clause-past g c = λ _ s.
    all_past g.T.Row.key c.args.key.now c.args.rows.now _ c.in-Some.last.now c.in-Some.ensures.cases.0 s (sym c.in-Greater.ensures)
