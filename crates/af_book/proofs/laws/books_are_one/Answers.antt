use Rattle.af_book.proofs.LawLemmas.{one_book}
use Rattle.af_book.proofs.laws.books_are_one.Goals as goal

pub returns : goal.returns
returns c lines config other records others =
    one_book lines config other records others (c.openings_are_read_back.ensures config) (c.openings_are_read_back.ensures other)
