-- The points of the schedules with a name: which instants each of them is, in UTC (Airflow 2, "DAG Runs", cron presets),
-- and what the next and the last of a set of instants are.
use Rattle.std.specs.Prelude.{ℕ, ◌+◌, ◌-◌, ◌≤◌, ◌/◌, ◌%◌, ◌==◌, ◌&&◌, Bool, IsTrue, Option, reverse}
use Rattle.std.specs.List.{find, range_with_len}
use Rattle.af_names.specs.Instants.{last_micros}
use Rattle.af_names.specs.CivilDays.{civil_day}
use Rattle.af_names.specs.declared.preset.Preset.{Preset}
use Rattle.af_names.specs.declared.preset.Preset.TheVariants.{Hourly, Daily, Weekly, Monthly}

-- the number of an instant's day, where 1970-01-01 is day 0
abbrev pub day_of : ℕ → ℕ
day_of micros = micros / 86_400_000_000

abbrev pub is_multiple : ℕ → ℕ → Bool
is_multiple step number = number % step == 0

abbrev pub is_midnight : ℕ → Bool
is_midnight micros = is_multiple 86_400_000_000 micros

-- 1970-01-01 was a Thursday, so the first Sunday is day 3
abbrev pub is_sunday : ℕ → Bool
is_sunday number = number % 7 == 3

abbrev pub is_first_of_month : ℕ → Bool
is_first_of_month number = (civil_day number).day == 1

-- the beginning of a day that passes the test
abbrev pub is_midnight_of : (ℕ → Bool) → ℕ → Bool
is_midnight_of is_day micros = is_midnight micros && is_day (day_of micros)

-- the instants of a schedule
abbrev pub is_point : Preset → ℕ → Bool
is_point Hourly micros = is_multiple 3_600_000_000 micros
is_point Daily micros = is_midnight micros
is_point Weekly micros = is_midnight_of is_sunday micros
is_point Monthly micros = is_midnight_of is_first_of_month micros

-- the first of a set of instants at or after one of them
unfoldable pub next_of : (ℕ → Bool) → ℕ → Option ℕ
next_of is_member from = find is_member (range_with_len from (last_micros + 1 - from))

-- the last of a set of instants at or before one of them
unfoldable pub last_of : (ℕ → Bool) → ℕ → Option ℕ
last_of is_member to = find is_member (reverse (range_with_len 0 (to + 1)))

-- the least of a set at or after a bound
pub record IsLeastFrom (is_member : ℕ → Bool) (from : ℕ) (least : ℕ) : Type 0 where
  pub member : IsTrue (is_member least)
  pub at_or_after : from ≤ least
  pub before_others : (other : ℕ) → IsTrue (is_member other) → from ≤ other → least ≤ other

-- the greatest of a set at or before a bound
pub record IsGreatestTo (is_member : ℕ → Bool) (to : ℕ) (greatest : ℕ) : Type 0 where
  pub member : IsTrue (is_member greatest)
  pub at_or_before : greatest ≤ to
  pub after_others : (other : ℕ) → IsTrue (is_member other) → other ≤ to → other ≤ greatest
