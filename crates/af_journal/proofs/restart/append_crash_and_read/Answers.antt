use Rattle.std.proofs.Common.{inl, inr, sym, ◌∙◌}
use Rattle.af_journal.proofs.RowLemmas.{same_entries}
use Rattle.af_journal.proofs.restart.append_crash_and_read.Goals as goal

pub returns-in-Ok-clause-lines : goal.returns-in-Ok-clause-lines
returns-in-Ok-clause-lines g c is_open =
    let found = c.in-Ok.ensures.found is_open in
    let read = sym (c.in-Ok.ensures.lines is_open) in
    elim (c.append-told.ensures.crash found.0 found.1) [
      | inl was ↦ inl (read ∙ same_entries _ _ (sym found.2 ∙ c.leaves_its_lines.ensures.left c.requires.opened found.0 was))
      | inr all ↦ inr (read ∙ same_entries _ _ (sym found.2 ∙ all.1))
    ]
