-- The moments at which runs of a DAG fall due (Airflow 2, "DAG Runs"): those of its schedule from its start date on.
use Rattle.std.specs.Prelude.{ℕ, ◌-◌, ◌*◌, ◌&&◌, Bool, nat_le}
use Rattle.af_names.specs.Points.{is_multiple, is_point}
use Rattle.af_graph.specs.declared.schedule.Points.{Points}
use Rattle.af_graph.specs.declared.schedule.Points.TheVariants.{Preset, Seconds}
use Rattle.af_graph.specs.declared.schedule.Schedule.{Schedule}

-- whether an instant from the start on is a whole number of steps of so many seconds after it
abbrev pub is_in_steps : ℕ → ℕ → ℕ → Bool
is_in_steps start seconds micros = is_multiple (seconds * 1_000_000) (micros - start)

-- whether an instant from the start on is one of these points
abbrev pub is_point_from : ℕ → Points → ℕ → Bool
is_point_from start (Preset preset) micros = is_point preset micros
is_point_from start (Seconds seconds) micros = is_in_steps start seconds micros

-- the instants of a schedule
abbrev pub is_scheduled : Schedule → ℕ → Bool
is_scheduled schedule micros =
    nat_le schedule.start_date micros && is_point_from schedule.start_date schedule.points micros
