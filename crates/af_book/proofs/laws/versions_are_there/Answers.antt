use Rattle.std.proofs.Common.{arith}
use Rattle.af_book.specs.Books.{opened}
use Rattle.af_book.proofs.LawLemmas.{version_there}
use Rattle.af_book.proofs.laws.versions_are_there.Goals as goal

pub returns : goal.returns
returns c lines config before rest entry book = omega (arith, version_there (opened config) book.1.rest before rest entry book.0 book.1.leads)
