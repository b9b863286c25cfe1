-- Runs that are to be added to others, which stay as they are meanwhile (this product's own rule).
use Rattle.std.specs.Prelude.{ℕ, List, ◌++◌}
use Rattle.af_runs.specs.declared.run.Run.{Run}
use Rattle.af_runs.specs.Runs.{RunRows}

-- the rows before the additions, the rows that are to be added, and the number that the next one gets
pub record RunAdditions : Type 0 where
  pub before : List Run
  pub added : List Run
  pub next : ℕ

-- all the runs: those that are to be added after those before them, without memory reserved
abbrev pub together : RunAdditions → RunRows
together additions = record {
  rows = additions.before ++ additions.added;
  next = additions.next;
  spare = 0;
}
