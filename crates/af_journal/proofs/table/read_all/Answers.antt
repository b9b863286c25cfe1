use Rattle.std.proofs.Common.{◌≡◌, ◌++◌, ◌∷◌, [], ◌+◌, length, rules, arith, refl, sym, ap, ◌∙◌, append_assoc}
use Rattle.std.proofs.lemmas.Option.{same_Some}
use Rattle.std.proofs.lemmas.List.{map-append, length-map}
use Rattle.af_journal.specs.Lines.{row_of, rows_after, entry_of, entries_of}
use Rattle.af_journal.proofs.RowLemmas.{from_no_key, rows_more}
use Rattle.af_journal.proofs.table.read_all.Goals as goal

pub loop-number-init : goal.loop-number-init
loop-number-init g c =
    let all = (g.S.Store.view c.args.store.now).trees 0 in
    let placed = rw (c.new-row.ensures, from_no_key) at c.in_ok-seek.ensures.ok in
    record {
      read = λ clean. (all, ap (λ v. v.cursors 0) (placed clean), rw c.new-lines.ensures.items refl);
      live = c.in_ok-seek.ensures.live;
      same = λ clean. rw (placed clean) refl;
      number = rw c.new-lines.ensures.items refl;
      quiet = c.seek.ensures.quiet;
    }

pub loop-number-preserved : goal.loop-number-preserved
loop-number-preserved g c =
    let lines = c.loop-number.lines.items in
    let line = c.in-Some.line in
    record {
      read = λ clean.
          let was = c.loop-number.invariant.read (omega (arith, c.next.ensures.quiet.clean)) in
          let step = rw c.if-not-branch.false at (c.in_ok-next.ensures.ok clean) in
          let row = c.next.new.row in
          let left : was.0 ≡ row ∷ step.0 = same_Some _ _ (sym was.1 ∙ step.1) in
          let is : row ≡ row_of c.loop-number.number (entry_of line) = rw c.in-Some.is at c.in_ok-line.ensures in
          let items : c.push.new.self.items ≡ lines ++ line ∷ [] = search rules in
          let all : entries_of c.push.new.self.items ≡ entries_of lines ++ entry_of line ∷ [] = ap entries_of items ∙ map-append entry_of lines (line ∷ []) in
          let number : c.loop-number.number ≡ 0 + length (entries_of lines) + 1 = omega (arith, c.loop-number.invariant.number, length-map lines entry_of) in
          let more : rows_after 0 (entries_of c.push.new.self.items) ≡ rows_after 0 (entries_of lines) ++ row ∷ [] =
          ap (rows_after 0) all ∙ rows_more 0 (entries_of lines) (entry_of line ∷ []) ∙ ap (λ r. rows_after 0 (entries_of lines) ++ r ∷ []) (ap (λ n. row_of n (entry_of line)) (sym number) ∙ sym is) in
          (step.0, ap (λ v. v.cursors 0) step.2, rw (more, append_assoc) (was.2 ∙ ap (λ rest. rows_after 0 (entries_of lines) ++ rest) left));
      live = search rules;
      same = search rules;
      number = search rules;
      quiet = search rules;
    }
