use Rattle.std.proofs.Common.{◌∙◌, ap, inl, inr, refl, sym}
use Rattle.af_journal.specs.Lines as journal
use Rattle.af_book.proofs.KeptLemmas.{begins, begun, just_opening, none}
use Rattle.af_book.proofs.book.Book.begin.Goals as goal

pub invariant_of-result : goal.invariant_of-result
invariant_of-result g c is_open =
    let grew = c.in-Ok-append.ensures.ok is_open in
    begun c.args.config.now c.args.journal.entries c.append.new.self.entries (journal.entry_of c.in-Ok.opening.0) (sym (c.count.ensures grew.0) ∙ c.if-count-ne0.false)
    grew.1 c.in-Ok.ensures.line c.in-Ok.opening.1 c.in-Ok.ensures.read_back c.in-Ok.ensures.place

pub returns-in-Ok-append-clause-crash : goal.returns-in-Ok-append-clause-crash
returns-in-Ok-append-clause-crash g c db left =
    elim (c.append.ensures.crash db left) [
      | inl was ↦ inl was
      | inr all ↦ inr (
        all.0,
        all.1 ∙ ap (journal.rows_after 0) (just_opening c.args.config.now c.args.journal.entries _ (journal.entry_of c.in-Ok.opening.0)
            (sym (c.count.ensures all.0) ∙ c.if-count-ne0.false) refl c.in-Ok.ensures.line),
      )
    ]

pub returns-clause-crash : goal.returns-clause-crash
returns-clause-crash g c db left =
    elim (c.append.ensures.crash db left) [
      | inl was ↦ inl was
      | inr all ↦ inr (
        all.0,
        all.1 ∙ ap (journal.rows_after 0) (just_opening c.args.config.now c.args.journal.entries _ (journal.entry_of c.in-Ok.opening.0)
            (sym (c.count.ensures all.0) ∙ c.if-count-ne0.false) refl c.in-Ok.ensures.line),
      )
    ]

pub returns-in-Ok-append-clause-new : goal.returns-in-Ok-append-clause-new
returns-in-Ok-append-clause-new g c is_open =
    let grew = c.in-Ok-append.ensures.ok is_open in
    let n = sym (c.count.ensures grew.0) ∙ c.if-count-ne0.false in
    let both = begins c.args.config.now c.args.journal.entries c.append.new.self.entries (journal.entry_of c.in-Ok.opening.0) n grew.1 c.in-Ok.ensures.line c.in-Ok.ensures.read_back in
    (grew.0, none c.args.journal.entries n, both.0, both.1)

pub returns-in-Ok-append-clause-not_new : goal.returns-in-Ok-append-clause-not_new
returns-in-Ok-append-clause-not_new g c is_open some = absurd (some (none c.args.journal.entries (sym (c.count.ensures is_open) ∙ c.if-count-ne0.false)))

pub returns-clause-not_new : goal.returns-clause-not_new
returns-clause-not_new g c is_open some = absurd (some (none c.args.journal.entries (sym (c.count.ensures is_open) ∙ c.if-count-ne0.false)))
