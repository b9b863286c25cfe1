use Rattle.af_book.specs.Books.{opened}
use Rattle.af_book.proofs.LawLemmas.{numbered_from}
use Rattle.af_book.proofs.laws.entries_are_numbered.Goals as goal

pub returns : goal.returns
returns c lines config records book = numbered_from (opened config) book.1.rest records book.0 book.1.leads
