-- How many more runs of each DAG may start. No public contract cites this file.
use Rattle.std.specs.Prelude.{ℕ, ◌-◌, ◌&&◌, List, Bool, false, count_by, nat_lt, if◌then◌else◌}
use Rattle.std.specs.Option.{option_map_or}
use Rattle.af_runs.specs.Runs.{is_of}
use Rattle.af_runs.specs.declared.run.Run.{Run}
use Rattle.af_sched.specs.Start.{is_queued, running_of}
use Rattle.af_sched.specs.State.{dag_of, is_of_id}
use Rattle.af_sched.specs.declared.dag_row.DagRow.{DagRow}

-- how many runs of a DAG may be running: none that starts while it is paused
abbrev pub most_of : DagRow → ℕ
most_of row = if row.is_paused then 0 else row.dag.max_active_runs

-- how many runs of a DAG are queued
abbrev pub queued_of : List Run → List ℕ → ℕ
queued_of runs dag_id = count_by (λ run. is_of dag_id run && is_queued run.state) runs

-- how many more runs of a DAG may start where these are running
abbrev pub room_of : List Run → DagRow → ℕ
room_of runs row = most_of row - running_of runs row.dag.dag_id

-- how many are left once the queued ones of those seen have had their turn
abbrev pub room_left : List Run → List Run → DagRow → ℕ
room_left runs seen row = room_of runs row - queued_of seen row.dag.dag_id

-- whether the DAG of this id has room, where so much is left of each
abbrev pub has_room : (DagRow → ℕ) → List DagRow → List ℕ → Bool
has_room left dags dag_id = option_map_or (λ row. nat_lt 0 (left row)) (dag_of dags dag_id) false

-- what is left of each DAG's room, once one is taken of that of this id, where one is
abbrev pub less_one : (DagRow → ℕ) → Bool → List ℕ → DagRow → ℕ
less_one left takes dag_id row = if takes && is_of_id dag_id row then left row - 1 else left row
