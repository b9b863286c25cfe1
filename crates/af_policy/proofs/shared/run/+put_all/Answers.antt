use Rattle.std.proofs.Common.{◌++◌, ◌∷◌, [], sym, ap, ◌∙◌}
use Rattle.std.proofs.lemmas.List.{append_assoc}
use Rattle.af_policy.specs.SharedRows.{with_row}
use Rattle.af_policy.proofs.OrderLemmas.{ascend_above, ascend_low, with_above, with_at_cut, with_low}
use Rattle.af_policy.proofs.shared.run.+put_all.Goals as goal

pub returns-in_ok-copy_all-in-Less : goal.returns-in_ok-copy_all-in-Less
returns-in_ok-copy_all-in-Less g t c = λ s.
    let low = c.split_at.result.0.now
    in let high = c.split_at.result.1.now
    in let made = with_row g.T.Row.key low c.args.row
    in c.in_ok-copy_all-in-Less.ensures
    ∙ ap (λ rows. rows ++ high) (c.in_ok-put_all-in-Less.ensures (ascend_low g.T.Row.key c.args.rows.now low high _ _ c.split_at.ensures.by_index.0 c.in-Some.ensures.cases.0 s))
    ∙ append_assoc c.args.into.now.items made high
    ∙ ap (λ rows. c.args.into.now.items ++ rows) (with_low g.T.Row.key c.args.rows.now low high _ _ c.split_at.ensures.by_index.0 c.in-Some.ensures.cases.0 s c.args.row (sym c.in-Less.ensures))

pub returns-in_ok-copy_all-in-Equal-2 : goal.returns-in_ok-copy_all-in-Equal-2
returns-in_ok-copy_all-in-Equal-2 g t c = λ s.
    let low = c.split_at.result.0.now
    in let high = c.split_at.result.1.now
    in let above = c.in-Some.above.now
    in c.in_ok-copy_all-in-Equal-2.ensures
    ∙ ap (λ rows. rows ++ above) (c.in_ok-push-in-Equal.ensures.items ∙ ap (λ rows. rows ++ c.args.row ∷ []) c.in_ok-copy_all-in-Equal.ensures)
    ∙ append_assoc (c.args.into.now.items ++ low) (c.args.row ∷ []) above
    ∙ append_assoc c.args.into.now.items low (c.args.row ∷ above)
    ∙ ap (λ rows. c.args.into.now.items ++ rows) (with_at_cut g.T.Row.key c.args.rows.now low high _ above c.split_at.ensures.by_index.0 c.in-Some.ensures.cases.0 s c.args.row (sym c.in-Equal.ensures))

pub returns-in_ok-put_all-in-Greater : goal.returns-in_ok-put_all-in-Greater
returns-in_ok-put_all-in-Greater g t c = λ s.
    let low = c.split_at.result.0.now
    in let high = c.split_at.result.1.now
    in let first = c.in-Some.first.now
    in let above = c.in-Some.above.now
    in let made = with_row g.T.Row.key above c.args.row
    in c.in_ok-put_all-in-Greater.ensures (ascend_above g.T.Row.key c.args.rows.now low high first above c.split_at.ensures.by_index.0 c.in-Some.ensures.cases.0 s)
    ∙ ap (λ rows. rows ++ made) (c.in_ok-push-in-Greater.ensures.items ∙ (λ i. c.in_ok-copy_all-in-Greater.ensures i ++ c.in_ok-copied-in-Greater.ensures i ∷ []))
    ∙ append_assoc (c.args.into.now.items ++ low) (first ∷ []) made
    ∙ append_assoc c.args.into.now.items low (first ∷ made)
    ∙ ap (λ rows. c.args.into.now.items ++ rows) (with_above g.T.Row.key c.args.rows.now low high first above c.split_at.ensures.by_index.0 c.in-Some.ensures.cases.0 s c.args.row (sym c.in-Greater.ensures))
