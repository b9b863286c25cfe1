-- The numbers of the runs of each DAG, in order, as far as they are listed (this product's own rule).
use Rattle.std.specs.Prelude.{ℕ, ◌≡◌, ◌≤◌, List, [], length, map, take}
use Rattle.std.specs.Option.{option_map_or}
use Rattle.std.specs.HashMap.{get_by_text}
use Rattle.af_runs.specs.Runs.{runs_of}
use Rattle.af_runs.specs.declared.dag_lists.DagLists.{DagLists}
use Rattle.af_runs.specs.declared.run.Run.{Run}

-- the numbers listed of a DAG
abbrev pub numbers_in : DagLists → List ℕ → List ℕ
numbers_in lists dag_id = option_map_or (λ list. list.items) (get_by_text lists.lists dag_id) []

-- the lists are those of the first of these runs, as many as are listed
pub record AreDagLists (runs : List Run) (lists : DagLists) : Type 0 where
  pub within : lists.listed ≤ length runs
  pub numbers : (dag_id : List ℕ) → numbers_in lists dag_id ≡ map (λ run. run.number) (runs_of (take lists.listed runs) dag_id)
