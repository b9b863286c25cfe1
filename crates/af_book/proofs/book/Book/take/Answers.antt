use Rattle.std.proofs.Common.{List, subst, sym}
use Rattle.af_journal.specs.Lines as journal
use Rattle.af_journal.specs.declared.line.Line.{Line}
use Rattle.af_book.specs.Books.{Reaches}
use Rattle.af_book.proofs.BookLemmas.{Reaches-read, config_in-Reaches, records_in-Reaches}
use Rattle.af_book.proofs.book.Book.take.Goals as goal

pub invariant_of-result : goal.invariant_of-result
invariant_of-result g c is_open =
    let config = c.in-Ok.opening in
    let records = c.in-Ok.records.items in
    let end = c.in-Ok.end in
    let reaches = subst (λ (lines : List Line). Reaches (journal.entries_of lines) config records end) c.as_slice.ensures.value c.in-Ok.ensures.reaches in
    Reaches-read config (c.openings_are_read_back.ensures config) c.args.journal.entries records end
    (subst (λ (entries : List journal.Entry). Reaches entries config records end) (sym (c.requires is_open)) reaches)

pub returns-in-Ok-clause-book : goal.returns-in-Ok-clause-book
returns-in-Ok-clause-book g c is_open =
    let config = c.in-Ok.opening in
    let records = c.in-Ok.records.items in
    let end = c.in-Ok.end in
    let reaches = subst (λ (lines : List Line). Reaches (journal.entries_of lines) config records end) c.as_slice.ensures.value c.in-Ok.ensures.reaches in
    let here = subst (λ (entries : List journal.Entry). Reaches entries config records end) (sym (c.requires is_open)) reaches in
    let law = c.openings_are_read_back.ensures config in
    (config_in-Reaches config law c.args.journal.entries records end here, records_in-Reaches config law c.args.journal.entries records end here)
