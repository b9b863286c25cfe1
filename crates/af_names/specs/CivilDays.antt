-- The days of the calendar (ISO 8601), counted from 1970-01-01.
use Rattle.std.specs.Prelude.{ℕ, zero, suc, ◌+◌, pos, nat_lt, if◌then◌else◌}
use Rattle.jiff_core.specs.Calendar.{days_in_month}

pub record CivilDay : Type 0 where
  pub year : ℕ
  pub month : ℕ
  pub day : ℕ

-- the next day of the month, else the first of the next month, else that of the next year
abbrev pub next_day : CivilDay → CivilDay
next_day at =
    if nat_lt at.day (days_in_month (pos at.year) at.month) then record at { day = at.day + 1 }
    else (if nat_lt at.month 12 then record { year = at.year; month = at.month + 1; day = 1 }
    else record { year = at.year + 1; month = 1; day = 1 })

-- the day of that number, where 1970-01-01 is day 0
unfoldable pub civil_day : ℕ → CivilDay
civil_day zero = record { year = 1970; month = 1; day = 1 }
civil_day (suc number) = next_day (civil_day number)
