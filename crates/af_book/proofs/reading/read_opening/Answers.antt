use Rattle.af_journal.specs.Lines.{entry_of}
use Rattle.af_book.proofs.ReadLemmas.{opening_there}
use Rattle.af_book.proofs.reading.read_opening.Goals as goal

pub returns-clause-opens : goal.returns-clause-opens
returns-clause-opens c =
    opening_there c.start-start.result c.as_str.result.now c.as_str-2.result.now c.as_str-3.result.now c.in-Ok.opening c.in-Ok-Opened.field-0 (entry_of c.args.line.now)
    c.nothing_else_is_a_mark.ensures c.nothing_else_opens.ensures c.start-start.ensures c.as_str.ensures.value c.as_str-2.ensures.value c.in-Ok-Opened.field-0-is
    c.in-Ok-Opened.ensures c.as_str-3.ensures.value c.in-Ok.ensures
