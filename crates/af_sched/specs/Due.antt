-- Which points of a schedule get their runs at a moment (Airflow 2, "DAG Runs": data interval, catchup). A schedule is a
-- set of instants, its points. The interval that begins at a point ends at the next one, and then its run is due.
use Rattle.std.specs.Prelude.{ℕ, ◌+◌, ◌-◌, Bool, false, ◌&&◌, nat_le, List, filter, take, Option, Some, None, option_to_list, if◌then◌else◌}
use Rattle.std.specs.List.{range_with_len, last_or}
use Rattle.std.specs.Option.{option_map_or}
use Rattle.af_names.specs.Points.{next_of}
use Rattle.af_graph.specs.Schedules.{is_scheduled}
use Rattle.af_graph.specs.declared.schedule.Schedule.{Schedule}

-- the next point: the least one after an instant
abbrev pub next_after : (ℕ → Bool) → ℕ → Option ℕ
next_after is_point at = next_of is_point (at + 1)

-- whether an instant is a point whose next point is at most t
abbrev pub is_due : (ℕ → Bool) → ℕ → ℕ → Bool
is_due is_point t at = is_point at && option_map_or (λ end. nat_le end t) (next_after is_point at) false

-- the points at or after the cursor that are due at t, in order
unfoldable pub due_from : (ℕ → Bool) → ℕ → ℕ → List ℕ
due_from is_point cursor t = filter (is_due is_point t) (range_with_len cursor (t - cursor))

-- those that one tick at t takes: with catchup the first 16, without it the last one
abbrev pub taken_points : Bool → (ℕ → Bool) → ℕ → ℕ → List ℕ
taken_points catchup is_point cursor t =
    if catchup then take 16 (due_from is_point cursor t)
    else option_to_list (last_or None (due_from is_point cursor t))

-- where the cursor then stands: at the end of the last interval taken; where none is taken it stays
abbrev pub moved_cursor : (ℕ → Bool) → List ℕ → ℕ → Option ℕ
moved_cursor is_point taken cursor = option_map_or (next_after is_point) (last_or None taken) (Some cursor)

-- where the cursor of a schedule begins: at the first of its points
abbrev pub first_cursor : Schedule → Option ℕ
first_cursor schedule = next_of (is_scheduled schedule) schedule.start_date
