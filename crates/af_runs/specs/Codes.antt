-- The codes by which the runs are looked up: a hash of what is sought (this product's own rule). Rows of one code may differ
-- in what the code is of.
use Rattle.std.specs.Prelude.{ℕ, List}
use Rattle.std.specs.List.{fold}
use Rattle.std.specs.Hash as fed
use Rattle.std.specs.Hash.FoldHasher as hasher
use Rattle.af_runs.specs.declared.run.Run.{Run}

-- the code of a DAG and a run by their ids
unfoldable pub ids_code : List ℕ → List ℕ → ℕ
ids_code dag_id run_id = hasher.finish (hasher.write (hasher.write hasher.initial dag_id) run_id)

-- the code of a DAG and a logical date
unfoldable pub date_code : List ℕ → ℕ → ℕ
date_code dag_id date = hasher.finish (fold hasher.write (hasher.write hasher.initial dag_id) (fed.u64 date))

-- a run's number, and the code of its ids
abbrev pub by_ids : Run → ℕ × ℕ
by_ids run = (run.number, ids_code run.dag_id run.run_id)

-- a run's number, and the code of its DAG and its logical date
abbrev pub by_date : Run → ℕ × ℕ
by_date run = (run.number, date_code run.dag_id run.logical_date)
