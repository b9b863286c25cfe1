use Rattle.std.proofs.Common.{◌≡◌, ◌∙◌, ◌⊎◌, ◌++◌, List, subst, sym, true}
use Rattle.af_journal.specs.Lines as journal
use Rattle.af_journal.specs.Shown.{Shown}
use Rattle.af_journal.specs.declared.line.Line.{Line}
use Rattle.af_book.specs.declared.place.Place.{Place}
use Rattle.af_book.specs.Books.{Leads}
use Rattle.af_book.proofs.LawLemmas.{found_again, found_right}
use Rattle.af_book.proofs.restart.append_crash_and_take.Goals as goal

pub returns-in-Ok-clause-records : goal.returns-in-Ok-clause-records
returns-in-Ok-clause-records g c is_open =
    let book = c.args.book in
    let added = journal.entries_of c.into_parts-lines.result.0.items in
    let found = journal.entries_of c.in_ok-journal.found.items in
    let leads = subst (λ (from : Place). Leads from added c.args.group.records c.into_parts-lines.result.1) c.requires.starts c.into_parts-lines.ensures in
    let read = c.in_ok-journal.ensures.lines (sym c.in-Ok.ensures.same.0 ∙ is_open) in
    let there = subst (λ (it : Shown _). (found ≡ it.entries) ⊎ (found ≡ it.entries ++ added)) c.into_journal.ensures
    (subst (λ (lines : List Line). (found ≡ c.into_journal.result.entries) ⊎ (found ≡ c.into_journal.result.entries ++ journal.entries_of lines)) c.as_slice.ensures.value read) in
    (found_again book.config c.in-Ok.taken.1 book.records c.args.group.records c.in-Ok.taken.2.items book.end c.into_parts-lines.result.1 book.journal.entries added found
    c.books_are_one.ensures (c.leaves_its_lines.ensures.book c.requires.opened) leads c.in-Ok.ensures.read there).1

pub returns-clause-taken : goal.returns-clause-taken
returns-clause-taken g c is_open =
    let book = c.args.book in
    let added = journal.entries_of c.into_parts-lines.result.0.items in
    let found = journal.entries_of c.in_ok-journal.found.items in
    let leads = subst (λ (from : Place). Leads from added c.args.group.records c.into_parts-lines.result.1) c.requires.starts c.into_parts-lines.ensures in
    let read = c.in_ok-journal.ensures.lines (subst (λ (it : Shown _). it.is_open ≡ true) c.in-Err.ensures.same is_open) in
    let there = subst (λ (it : Shown _). (found ≡ it.entries) ⊎ (found ≡ it.entries ++ added)) c.into_journal.ensures
    (subst (λ (lines : List Line). (found ≡ c.into_journal.result.entries) ⊎ (found ≡ c.into_journal.result.entries ++ journal.entries_of lines)) c.as_slice.ensures.value read) in
    found_right book.config book.records c.args.group.records book.end c.into_parts-lines.result.1 book.journal.entries added found c.in-Err.refused.0
    c.books_are_taken.ensures (c.leaves_its_lines.ensures.book c.requires.opened) leads c.in-Err.ensures.wrong there
