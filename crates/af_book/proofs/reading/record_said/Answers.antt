use Rattle.std.proofs.Common.{ℕ, List, subst}
use Rattle.std.specs.Prelude.{IfNone}
use Rattle.af_journal.specs.Lines.{entry_of}
use Rattle.af_book.specs.Reads.{Opens}
use Rattle.af_book.proofs.ReadLemmas.{opens_again}
use Rattle.af_book.proofs.reading.record_said.Goals as goal

pub returns-in-Ok-clause-none : goal.returns-in-Ok-clause-none
returns-in-Ok-clause-none c =
    opens_again c.args.from.now (entry_of c.args.line.now) c.in_ok-kind.kind c.in-Ok.found c.in_ok-kind.ensures.mark
    (subst (λ (body : List ℕ). IfNone c.in-Ok.found (Opens c.in_ok-kind.kind body)) c.as_str.ensures.value c.in-Ok.ensures.none)
