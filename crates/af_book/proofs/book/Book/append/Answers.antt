use Rattle.std.proofs.Common.{◌∙◌, ◌++◌, ap, inl, inr, subst}
use Rattle.af_journal.specs.Lines as journal
use Rattle.af_journal.specs.Shown.{MayLeave}
use Rattle.af_book.specs.Kept.{Kept}
use Rattle.af_book.proofs.KeptLemmas.{adds, is_shown_open, kept_more, stored_more}
use Rattle.af_book.proofs.book.Book.append.Goals as goal

pub returns-in_err-append-clause-crash : goal.returns-in_err-append-clause-crash
returns-in_err-append-clause-crash g c db left =
    let it = c.self.inside.journal in
    let more = journal.entries_of c.into_parts-lines.result.0.items in
    let as_they_are = ap (λ lines. it.entries ++ journal.entries_of lines) c.as_slice.ensures.value in
    elim (c.append.ensures.crash db left) [
      | inl was ↦ inl (subst (λ (k : Kept _). MayLeave g.S.Store k.journal db) c.self.view_is was)
      | inr all ↦ inr (
        is_shown_open it c.self.inside.end c.args.self.now c.self.view_is c.self.invariant all.0,
        stored_more it c.self.inside.end c.args.self.now c.self.view_is c.self.invariant more c.args.group.records c.args.group.start c.into_parts-lines.result.1 c.requires
            c.into_parts-lines.ensures all.0 db (all.1 ∙ ap (journal.rows_after 0) as_they_are),
      )
    ]

pub invariant_of-self-2 : goal.invariant_of-self-2
invariant_of-self-2 g c is_open =
    let it = c.self.inside.journal in
    let more = journal.entries_of c.into_parts-lines.result.0.items in
    let as_they_are = ap (λ lines. it.entries ++ journal.entries_of lines) c.as_slice.ensures.value in
    let grew = c.in_ok-append.ensures.ok is_open in
    kept_more it c.self.inside.end c.args.self.now c.self.view_is c.self.invariant more c.args.group.records c.args.group.start c.into_parts-lines.result.1 c.requires
    c.into_parts-lines.ensures c.append.new.self grew.0 (grew.1 ∙ as_they_are)

pub returns-clause-ok : goal.returns-clause-ok
returns-clause-ok g c is_open =
    let it = c.self.inside.journal in
    let more = journal.entries_of c.into_parts-lines.result.0.items in
    let as_they_are = ap (λ lines. it.entries ++ journal.entries_of lines) c.as_slice.ensures.value in
    let grew = c.in_ok-append.ensures.ok is_open in
    adds it c.self.inside.end c.args.self.now c.self.view_is c.self.invariant more c.args.group.records c.args.group.start c.into_parts-lines.result.1 c.requires
    c.into_parts-lines.ensures c.append.new.self grew.0 (grew.1 ∙ as_they_are)

pub returns-clause-crash : goal.returns-clause-crash
returns-clause-crash g c db left =
    let it = c.self.inside.journal in
    let more = journal.entries_of c.into_parts-lines.result.0.items in
    let as_they_are = ap (λ lines. it.entries ++ journal.entries_of lines) c.as_slice.ensures.value in
    elim (c.append.ensures.crash db left) [
      | inl was ↦ inl (subst (λ (k : Kept _). MayLeave g.S.Store k.journal db) c.self.view_is was)
      | inr all ↦ inr (
        is_shown_open it c.self.inside.end c.args.self.now c.self.view_is c.self.invariant all.0,
        stored_more it c.self.inside.end c.args.self.now c.self.view_is c.self.invariant more c.args.group.records c.args.group.start c.into_parts-lines.result.1 c.requires
            c.into_parts-lines.ensures all.0 db (all.1 ∙ ap (journal.rows_after 0) as_they_are),
      )
    ]
