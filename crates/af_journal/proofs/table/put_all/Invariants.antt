use Rattle.std.proofs.Common.{◌≡◌, ◌+◌, List, ◌++◌, length, take, IsTrue}
use Rattle.sqlite_trees.specs.View.{IsClean, IsQuiet}
use Rattle.sqlite_trees.specs.declared.store.Shape.TheVariants.{Table}
use Rattle.af_journal.specs.Lines.{Entry, entries_of, HasEntries}
use Rattle.af_journal.specs.Rest.{KeepsCommit}
use Rattle.af_journal.proofs.table.put_all.Given as goal

abbrev pub invariant-loop-line : goal.invariant-loop-line
invariant-loop-line g l =
    let old = g.S.Store.view l.fn.store in
    let new = g.S.Store.view l.store in
    record {
      adds : (before : List Entry) → l.fn.count ≡ length before → HasEntries old.trees before
          → (IsClean new → HasEntries new.trees (before ++ entries_of (take l.line-index l.lines))) × (l.number ≡ length before + l.line-index);
      shape : new.shape 0 ≡ Table;
      kept : IsClean new → IsTrue new.is_open → KeepsCommit old new;
      quiet : IsQuiet g.S.Store.view g.S.Store.faults g.S.Store.recovers g.S.Store.is_shielded l.fn.store l.store;
    }
