use Rattle.af_book.proofs.LawLemmas.{nothing_wrong}
use Rattle.af_book.proofs.laws.books_are_taken.Goals as goal

pub returns : goal.returns
returns c lines config records why book = nothing_wrong config lines records book.0 book.1 why c.openings_are_read_back.ensures
