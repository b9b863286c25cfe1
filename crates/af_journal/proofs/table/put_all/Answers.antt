use Rattle.std.proofs.Common.{◌≡◌, ◌++◌, ◌∷◌, [], ◌+◌, ◌<◌, length, take, rules, arith, sym, ap, ◌∙◌, append_assoc}
use Rattle.std.proofs.lemmas.List.{map-append, length-map, length-append, length-take-le, take_more}
use Rattle.af_journal.specs.Lines.{row_of, rows_after, entry_of, entries_of}
use Rattle.af_journal.proofs.RowLemmas.{put_next}
use Rattle.af_journal.proofs.table.put_all.Goals as goal

pub loop-line-preserved : goal.loop-line-preserved
loop-line-preserved g c =
    let lines = c.args.lines.now in
    let i = c.loop-line.line-index in
    let line = c.line-item.result in
    let within : i < length lines = omega arith in
    let done = entries_of (take i lines) in
    let all : entries_of (take (i + 1) lines) ≡ done ++ entry_of line ∷ [] = rw (take_more lines i line within, ← c.line-item.is) (map-append entry_of (take i lines) (line ∷ [])) in
    record {
      adds = λ before start has.
          let was = c.loop-line.invariant.adds before start has in
          let len : length (before ++ done) ≡ length before + i = length-append before done ∙ ap (λ n. length before + n) (length-map (take i lines) entry_of ∙ length-take-le i lines (omega (arith, within))) in (
            λ clean.
                let set = c.in_ok-put.ensures.ok clean in
                let row : c.write_row.new.row ≡ row_of (length (before ++ done) + 1) (entry_of line) =
                c.in_ok-write_row.ensures ∙ rw (c.as_str.ensures.value, c.as_str-in-loop-line.ensures.value) (ap (λ n. row_of n (entry_of line)) (omega (arith, was.1, len))) in
                ap (λ v. v.trees 0) set.is ∙ rw (row, was.0 (omega (arith, c.put.ensures.quiet.clean))) (put_next (before ++ done) (entry_of line)) ∙ ap (rows_after 0) (append_assoc before done (entry_of line ∷ []) ∙ ap (λ rest. before ++ rest) (sym all)),
            omega (arith, was.1),
          );
      shape = search rules;
      kept = search rules;
      quiet = search rules;
    }
