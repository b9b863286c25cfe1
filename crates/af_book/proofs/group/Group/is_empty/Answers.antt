use Rattle.std.proofs.Common.{◌≡◌, ◌∙◌, length, ap, rules, vec_len, sym}
use Rattle.std.specs.Bool.{◌==◌}
use Rattle.std.proofs.lemmas.List.{length-map}
use Rattle.af_journal.specs.Lines as journal
use Rattle.af_book.proofs.GroupLemmas.{is_empty_if}
use Rattle.af_book.proofs.group.Group.is_empty.Goals as goal

pub returns : goal.returns
returns c =
    let number : vec_len c.self.inside.lines ≡ length c.self.inside.lines.items = search rules in
    is_empty_if c.self.inside.start c.self.inside.end (journal.entries_of c.self.inside.lines.items) c.args.self.now c.self.view_is c.self.invariant c.is_empty.result
    (c.is_empty.ensures ∙ ap (λ n. n == 0) (number ∙ sym (length-map c.self.inside.lines.items journal.entry_of)))
