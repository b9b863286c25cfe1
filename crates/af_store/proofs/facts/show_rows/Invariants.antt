use Rattle.std.proofs.Common.{drop}
use Rattle.af_store.specs.ChangeLines.{AreRows}
use Rattle.af_store.proofs.facts.show_rows.Given as goal

-- if those that are left are such rows, all are
abbrev pub invariant-loop-row : goal.invariant-loop-row
invariant-loop-row l = AreRows (drop l.row-index l.rows) → AreRows l.rows
