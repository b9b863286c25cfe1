-- What a run is looked up by: its ids, or its DAG and its logical date.
use Rattle.std.specs.Prelude.{ℕ, Bool}
use Rattle.af_runs.specs.Codes.{ids_code, date_code, by_ids, by_date}
use Rattle.af_runs.specs.Runs.{is_run, is_dated}
use Rattle.af_runs.specs.declared.run.Run.{Run}
use Rattle.af_runs.specs.declared.wanted.Wanted.{Wanted}
use Rattle.af_runs.specs.declared.wanted.Wanted.TheVariants.{Ids, Date}

-- whether the run is the one that is wanted
abbrev pub meets : Wanted → Run → Bool
meets (Ids dag_id run_id) run = is_run dag_id.now run_id.now run
meets (Date dag_id date) run = is_dated dag_id.now date run

-- the code of what is wanted
abbrev pub code_of : Wanted → ℕ
code_of (Ids dag_id run_id) = ids_code dag_id.now run_id.now
code_of (Date dag_id date) = date_code dag_id.now date

-- the number of a run, and its code by what is wanted
abbrev pub key_of : Wanted → Run → ℕ × ℕ
key_of (Ids dag_id run_id) = by_ids
key_of (Date dag_id date) = by_date
