use Rattle.std.proofs.Common.{◌+◌, List, subst, sym, take}
use Rattle.std.proofs.lemmas.Result.{err_from_is_err_and}
use Rattle.af_journal.specs.Lines.{entries_of}
use Rattle.af_book.specs.Books.{Leads}
use Rattle.af_book.specs.declared.book_fault.BookFault.TheVariants.{OutOfMemory}
use Rattle.af_book.specs.declared.record.Record.{Record}
use Rattle.af_book.proofs.ReadLemmas.{leads_on, wrong_there}
use Rattle.af_book.proofs.reading.read_records.Goals as goal

pub returns-in_err-record-clause-wrong : goal.returns-in_err-record-clause-wrong
returns-in_err-record-clause-wrong c =
    let p = err_from_is_err_and c.from_residual.result c.from_residual.ensures.1 in
    rw (p.1, p.2) (wrong_there c.args.from c.args.lines.now c.loop-line.line-index c.line-item.result c.loop-line-test.true c.line-item.is c.loop-line.records.items c.loop-line.place
    c.loop-line.invariant c.in_err-record.field-0.0 c.in_err-record.ensures.wrong)

pub returns-in_err-push-clause-wrong : goal.returns-in_err-push-clause-wrong
returns-in_err-push-clause-wrong c =
    let p = err_from_is_err_and c.from_residual-in_err-push.result c.from_residual-in_err-push.ensures.1 in
    rw (p.1, p.2) (wrong_there c.args.from c.args.lines.now c.loop-line.line-index c.line-item.result c.loop-line-test.true c.line-item.is c.loop-line.records.items c.loop-line.place
    c.loop-line.invariant OutOfMemory tt)

pub loop-line-preserved : goal.loop-line-preserved
loop-line-preserved c =
    subst (λ (records : List Record). Leads c.args.from (entries_of (take (c.loop-line.line-index + 1) c.args.lines.now)) records c.in_ok-record.next) (sym c.in_ok-push.ensures.items)
    (leads_on c.args.from c.args.lines.now c.loop-line.line-index c.line-item.result c.loop-line-test.true c.line-item.is c.loop-line.records.items c.loop-line.place
    c.loop-line.invariant c.in_ok-record.record c.in_ok-record.next c.in_ok-record.ensures.next c.in_ok-record.ensures.place)
