use Rattle.std.proofs.Common.{◌≡◌, ◌+◌, IsSome, ◌++◌, List, Some, length}
use Rattle.sqlite_value.specs.Order.{Row}
use Rattle.sqlite_trees.specs.View.{IsClean, IsQuiet}
use Rattle.af_journal.specs.Lines.{rows_after, entries_of}
use Rattle.af_journal.proofs.table.read_all.Given as goal

abbrev pub invariant-loop-number : goal.invariant-loop-number
invariant-loop-number g l =
    let old = g.S.Store.view l.fn.store in
    let new = g.S.Store.view l.store in
    record {
      read : IsClean new → (left : List Row) × (new.cursors 0 ≡ Some left) × (old.trees 0 ≡ rows_after 0 (entries_of l.lines.items) ++ left);
      live : IsSome (new.cursors 0);
      same : IsClean new → new ≡ record old { cursors = new.cursors };
      number : l.number ≡ length l.lines.items + 1;
      quiet : IsQuiet g.S.Store.view g.S.Store.faults g.S.Store.recovers g.S.Store.is_shielded l.fn.store l.store;
    }
