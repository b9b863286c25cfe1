use Rattle.std.proofs.Common.{◌≡◌, ◌∙◌, ℕ, List, ◌++◌, ◌∷◌, [], Ok, ap, subst, sym}
use Rattle.std.proofs.lemmas.List.{map-append}
use Rattle.std.proofs.lemmas.Result.{err_from_is_err_and}
use Rattle.af_journal.specs.Lines as journal
use Rattle.af_book.specs.Books.{Leads}
use Rattle.af_book.specs.Groups.{change_taken}
use Rattle.af_book.specs.Records.{records_in}
use Rattle.af_book.specs.declared.record.Record.TheVariants as a
use Rattle.af_book.proofs.GroupLemmas.{leads_more, made_there, refused_there, shown, shown_more}
use Rattle.af_book.proofs.group.Group.add_change.Goals as goal

pub returns-in_err-line-clause-made : goal.returns-in_err-line-clause-made
returns-in_err-line-clause-made c =
    let lines = journal.entries_of c.self.inside.lines.items in
    let p = err_from_is_err_and c.from_residual.result c.from_residual.ensures.1 in
    rw (p.1, p.2) (refused_there c.self.inside.start c.self.inside.end lines c.args.self.now c.self.view_is c.self.invariant
    (λ (entries changes : ℕ). change_taken changes) (a.Change (record { by = c.args.by.now; change = c.args.change.now })) c.in_err-line.field-0.0 c.in_err-line.ensures.taken)

pub invariant_of-self-2 : goal.invariant_of-self-2
invariant_of-self-2 c =
    let lines = journal.entries_of c.self.inside.lines.items in
    let grown : journal.entries_of c.push.new.self.items ≡ lines ++ journal.entry_of c.in_ok-line.line ∷ [] =
    ap journal.entries_of c.in_ok-push.ensures.items ∙ map-append journal.entry_of c.self.inside.lines.items (c.in_ok-line.line ∷ []) in
    subst (λ (all : List journal.Entry). Leads c.self.inside.start all (records_in all) c.in_ok-line.end) (sym grown)
    (leads_more c.self.inside.start c.self.inside.end lines c.args.self.now c.self.view_is c.self.invariant
    (journal.entry_of c.in_ok-line.line) (a.Change (record { by = c.args.by.now; change = c.args.change.now })) c.in_ok-line.end c.in_ok-line.ensures.line c.in_ok-line.ensures.place)

pub returns-clause-made : goal.returns-clause-made
returns-clause-made c =
    let lines = journal.entries_of c.self.inside.lines.items in
    let grown : journal.entries_of c.push.new.self.items ≡ lines ++ journal.entry_of c.in_ok-line.line ∷ [] =
    ap journal.entries_of c.in_ok-push.ensures.items ∙ map-append journal.entry_of c.self.inside.lines.items (c.in_ok-line.line ∷ []) in
    made_there c.self.inside.start c.self.inside.end lines c.args.self.now c.self.view_is c.self.invariant
    (λ (entries changes : ℕ). change_taken changes) (a.Change (record { by = c.args.by.now; change = c.args.change.now })) c.in_ok-line.ensures.taken
    ∙ ap Ok (shown_more c.self.inside.start c.self.inside.end lines c.args.self.now c.self.view_is c.self.invariant
    (journal.entry_of c.in_ok-line.line) (a.Change (record { by = c.args.by.now; change = c.args.change.now })) c.in_ok-line.end c.in_ok-line.ensures.line c.in_ok-line.ensures.place
    ∙ ap (shown c.self.inside.start) (sym grown))
