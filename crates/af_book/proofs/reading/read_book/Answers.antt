use Rattle.std.proofs.Common.{◌≡◌, ◌∙◌, List, ◌∷◌, ap, subst}
use Rattle.af_journal.specs.Lines as journal
use Rattle.af_book.specs.declared.place.Place.{Place}
use Rattle.af_book.specs.Books.{Leads}
use Rattle.af_book.proofs.reading.read_book.Goals as goal

pub returns-clause-reaches : goal.returns-clause-reaches
returns-clause-reaches c =
    let rest = journal.entries_of c.in-Some.rest.now in
    let split : c.args.lines.now ≡ c.in-Some.first.now ∷ c.in-Some.rest.now = c.in-Some.ensures.cases.0 in
    record {
      rest = rest;
      opens = ap journal.entries_of split ∙ ap (λ (first : journal.Entry). let all : List journal.Entry = first ∷ rest in all) c.in_ok-opening.ensures.opens;
      leads = subst (λ (from : Place). Leads from rest c.in_ok-records.records.items c.in_ok-records.end) c.in_ok-opening.ensures.place c.in_ok-records.ensures.leads;
    }
