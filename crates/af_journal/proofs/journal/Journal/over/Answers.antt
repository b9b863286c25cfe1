use Rattle.std.proofs.Common.{◌≡◌, ◌∙◌, sym, ap, length, rules}
use Rattle.std.proofs.lemmas.List.{length-map}
use Rattle.sqlite_trees.specs.Tree.{Trees}
use Rattle.af_journal.specs.Lines.{entry_of, entries_of, rows_after}
use Rattle.af_journal.proofs.RowLemmas.{entries_are}
use Rattle.af_journal.proofs.StepLemmas.{read_same, read_lines, read_rests}
use Rattle.af_journal.proofs.journal.Journal.over.Goals as goal

pub invariant_of-result : goal.invariant_of-result
invariant_of-result g c =
    let new = c.read_all.new.store in
    let number : c.len.result ≡ length c.in-Ok.lines.items = search rules in
    read_rests (g.S.Store.view c.args.store) (g.S.Store.view new) (g.met.S.Store.shut_if_dirty new, g.met.S.Store.broken_if_shut new) (entries_of c.in-Ok.lines.items)
    c.requires.fresh c.in-Ok.ensures.same c.in-Ok.ensures.lines c.len.result (number ∙ sym (length-map c.in-Ok.lines.items entry_of))

pub returns-in-Ok-clause-lines : goal.returns-in-Ok-clause-lines
returns-in-Ok-clause-lines g c is_open =
    let new = c.read_all.new.store in
    entries_are (g.S.Store.view new).committed (entries_of c.in-Ok.lines.items)
    (read_lines (g.S.Store.view c.args.store) (g.S.Store.view new) (g.met.S.Store.shut_if_dirty new, g.met.S.Store.broken_if_shut new) (entries_of c.in-Ok.lines.items)
    c.requires.fresh c.in-Ok.ensures.same c.in-Ok.ensures.lines is_open)

pub returns-in-Ok-clause-held : goal.returns-in-Ok-clause-held
returns-in-Ok-clause-held g c is_open =
    let new = c.read_all.new.store in
    let lines = read_lines (g.S.Store.view c.args.store) (g.S.Store.view new) (g.met.S.Store.shut_if_dirty new, g.met.S.Store.broken_if_shut new) (entries_of c.in-Ok.lines.items)
    c.requires.fresh c.in-Ok.ensures.same c.in-Ok.ensures.lines is_open in
    let same = read_same (g.S.Store.view c.args.store) (g.S.Store.view new) (g.met.S.Store.shut_if_dirty new, g.met.S.Store.broken_if_shut new) (entries_of c.in-Ok.lines.items)
    c.requires.fresh c.in-Ok.ensures.same c.in-Ok.ensures.lines is_open in
    ap (λ (d : Trees). d 0) (sym same) ∙ lines ∙ ap (rows_after 0) (sym (entries_are (g.S.Store.view new).committed (entries_of c.in-Ok.lines.items) lines))

pub returns-in-Ok-clause-still : goal.returns-in-Ok-clause-still
returns-in-Ok-clause-still g c clean = ap (λ v. v.is_open) (c.in-Ok.ensures.same clean)
