use Rattle.std.proofs.Common.{ap, ◌∙◌, inl, inr}
use Rattle.sqlite_trees.specs.Tree.{Trees}
use Rattle.af_journal.specs.Lines.{entries_of}
use Rattle.af_journal.proofs.StepLemmas.{Laws, on_err, open_if_sound, clean_if_open, undone_keeps, undone_rests, sees, stays_open, committed_rests, committed_open, committed_adds}
use Rattle.af_journal.proofs.journal.append_all.Goals as goal

pub returns-in-Err-clause-rests : goal.returns-in-Err-clause-rests
returns-in-Err-clause-rests g c =
    let mid = c.put_all.new.store in
    let new = c.rollback.new.self in
    undone_rests (g.S.Store.view c.args.store.now) (g.S.Store.view mid) (g.S.Store.view new) c.args.count
    (g.met.S.Store.shut_if_dirty mid, g.met.S.Store.broken_if_shut mid) (g.met.S.Store.shut_if_dirty new, g.met.S.Store.broken_if_shut new) c.requires c.put_all.ensures.kept c.rollback.ensures.undone

pub returns-in-Err-clause-err : goal.returns-in-Err-clause-err
returns-in-Err-clause-err g c =
    let mid = c.put_all.new.store in
    let new = c.rollback.new.self in
    undone_keeps (g.S.Store.view c.args.store.now) (g.S.Store.view mid) (g.S.Store.view new) c.args.count
    (g.met.S.Store.shut_if_dirty mid, g.met.S.Store.broken_if_shut mid) (g.met.S.Store.shut_if_dirty new, g.met.S.Store.broken_if_shut new) c.requires c.put_all.ensures.kept c.rollback.ensures.undone

pub returns-in_err-commit-clause-rests : goal.returns-in_err-commit-clause-rests
returns-in_err-commit-clause-rests g c =
    let mid = c.put_all.new.store in
    let new = c.commit.new.self in
    on_err c.from_residual.result (undone_rests (g.S.Store.view c.args.store.now) (g.S.Store.view mid) (g.S.Store.view new) c.args.count
    (g.met.S.Store.shut_if_dirty mid, g.met.S.Store.broken_if_shut mid) (g.met.S.Store.shut_if_dirty new, g.met.S.Store.broken_if_shut new) c.requires c.put_all.ensures.kept c.in_err-commit.ensures.err)

pub returns-in_err-commit-clause-err : goal.returns-in_err-commit-clause-err
returns-in_err-commit-clause-err g c =
    let mid = c.put_all.new.store in
    let new = c.commit.new.self in
    on_err c.from_residual.result (undone_keeps (g.S.Store.view c.args.store.now) (g.S.Store.view mid) (g.S.Store.view new) c.args.count
    (g.met.S.Store.shut_if_dirty mid, g.met.S.Store.broken_if_shut mid) (g.met.S.Store.shut_if_dirty new, g.met.S.Store.broken_if_shut new) c.requires c.put_all.ensures.kept c.in_err-commit.ensures.err)

pub returns-in_err-commit-clause-crash : goal.returns-in_err-commit-clause-crash
returns-in_err-commit-clause-crash g c db left =
    let mid = c.put_all.new.store in
    let new = c.commit.new.self in
    let laws : Laws (g.S.Store.view mid) = (g.met.S.Store.shut_if_dirty mid, g.met.S.Store.broken_if_shut mid) in
    elim (c.commit.ensures.crash db left) [
      | inl now ↦
          let is_open = open_if_sound (g.S.Store.view mid) laws now.0 in
          let was = (c.put_all.ensures.kept (clean_if_open (g.S.Store.view mid) laws is_open) is_open).0 in
          let held = c.requires.held was in
          let all = sees (g.S.Store.view c.args.store.now) (g.S.Store.view mid) (g.S.Store.view new) c.args.count
          laws (g.met.S.Store.shut_if_dirty new, g.met.S.Store.broken_if_shut new) c.requires c.put_all.ensures.kept c.in-Ok.count (entries_of c.args.lines.now) c.in-Ok.ensures.ok is_open held.0 held.1 in
          inr (held.0, was, held.1, ap (λ (d : Trees). d 0) now.1 ∙ all.1)
      | inr old ↦ inl (c.put_all.ensures.quiet.outcomes db old)
    ]

pub returns-clause-moves : goal.returns-clause-moves
returns-clause-moves g c =
    let mid = c.put_all.new.store in
    let new = c.commit.new.self in
    committed_rests (g.S.Store.view c.args.store.now) (g.S.Store.view mid) (g.S.Store.view new) c.args.count
    (g.met.S.Store.shut_if_dirty mid, g.met.S.Store.broken_if_shut mid) (g.met.S.Store.shut_if_dirty new, g.met.S.Store.broken_if_shut new) c.requires c.put_all.ensures.kept
    _ (entries_of c.args.lines.now) c.in-Ok.ensures.ok c.in_ok-commit.ensures.ok

pub returns-clause-opened : goal.returns-clause-opened
returns-clause-opened g c =
    let mid = c.put_all.new.store in
    let new = c.commit.new.self in
    stays_open (g.S.Store.view c.args.store.now) (g.S.Store.view mid) (g.S.Store.view new) c.args.count
    (g.met.S.Store.shut_if_dirty mid, g.met.S.Store.broken_if_shut mid) (g.met.S.Store.shut_if_dirty new, g.met.S.Store.broken_if_shut new) c.requires c.put_all.ensures.kept
    _ (entries_of c.args.lines.now) c.in-Ok.ensures.ok c.in_ok-commit.ensures.ok

pub returns-clause-ok : goal.returns-clause-ok
returns-clause-ok g c is_open =
    let old = g.S.Store.view c.args.store.now in
    let mid = c.put_all.new.store in
    let new = c.commit.new.self in
    let mid_laws : Laws (g.S.Store.view mid) = (g.met.S.Store.shut_if_dirty mid, g.met.S.Store.broken_if_shut mid) in
    let new_laws : Laws (g.S.Store.view new) = (g.met.S.Store.shut_if_dirty new, g.met.S.Store.broken_if_shut new) in
    let was = committed_open old (g.S.Store.view mid) (g.S.Store.view new) c.args.count mid_laws new_laws c.requires c.put_all.ensures.kept
    _ (entries_of c.args.lines.now) c.in-Ok.ensures.ok c.in_ok-commit.ensures.ok is_open in (
      was,
      λ before has. (committed_adds old (g.S.Store.view mid) (g.S.Store.view new) c.args.count mid_laws new_laws c.requires c.put_all.ensures.kept
          _ (entries_of c.args.lines.now) c.in-Ok.ensures.ok c.in_ok-commit.ensures.ok before has is_open).1,
    )

pub returns-clause-crash : goal.returns-clause-crash
returns-clause-crash g c db left =
    let mid = c.put_all.new.store in
    let new = c.commit.new.self in
    let laws : Laws (g.S.Store.view mid) = (g.met.S.Store.shut_if_dirty mid, g.met.S.Store.broken_if_shut mid) in
    elim (c.commit.ensures.crash db left) [
      | inl now ↦
          let is_open = open_if_sound (g.S.Store.view mid) laws now.0 in
          let was = (c.put_all.ensures.kept (clean_if_open (g.S.Store.view mid) laws is_open) is_open).0 in
          let held = c.requires.held was in
          let all = sees (g.S.Store.view c.args.store.now) (g.S.Store.view mid) (g.S.Store.view new) c.args.count
          laws (g.met.S.Store.shut_if_dirty new, g.met.S.Store.broken_if_shut new) c.requires c.put_all.ensures.kept c.in-Ok.count (entries_of c.args.lines.now) c.in-Ok.ensures.ok is_open held.0 held.1 in
          inr (held.0, was, held.1, ap (λ (d : Trees). d 0) now.1 ∙ all.1)
      | inr old ↦ inl (c.put_all.ensures.quiet.outcomes db old)
    ]
