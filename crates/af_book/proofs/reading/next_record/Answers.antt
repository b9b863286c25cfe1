use Rattle.std.proofs.Common.{Option, rules, subst}
use Rattle.std.specs.Prelude.{IfSome}
use Rattle.af_journal.specs.Lines.{entry_of}
use Rattle.af_book.specs.declared.record.Record.{Record}
use Rattle.af_book.specs.Books.{Follows}
use Rattle.af_book.specs.Reads.{Says}
use Rattle.af_book.specs.Records.{saying}
use Rattle.af_book.proofs.ReadLemmas.{says_next}
use Rattle.af_book.proofs.reading.next_record.Goals as goal

pub returns-clause-next : goal.returns-clause-next
returns-clause-next c =
    let stored = entry_of c.args.line.now in
    let says = subst (λ (found : Option Record). IfSome found (λ (it : Record). Says c.args.from.now stored (saying it))) c.in-Some.is c.in_ok-found.ensures.some in
    let follows : Follows c.args.from.now c.in-Some.found = search rules in
    says_next c.args.from.now stored c.in-Some.found says follows
