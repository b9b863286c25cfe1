use Rattle.std.proofs.Common.{take}
use Rattle.af_journal.specs.Lines.{entries_of}
use Rattle.af_book.specs.Books.{Leads}
use Rattle.af_book.proofs.reading.read_records.Given as goal

abbrev pub invariant-loop-line : goal.invariant-loop-line
invariant-loop-line l = Leads l.fn.from (entries_of (take l.line-index l.lines)) l.records.items l.place
