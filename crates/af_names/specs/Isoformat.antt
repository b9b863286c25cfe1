-- The text of an instant: what Python's `datetime.isoformat` writes of a time at `+00:00`, so with six places of a
-- fraction where the microseconds are not 0, and else with none.
use Rattle.std.specs.Prelude.{ℕ, ◌/◌, ◌%◌, ◌==◌, List, [], ◌++◌, if◌then◌else◌, codes}
use Rattle.jiff_fmt.specs.Text.{pad2, pad4}
use Rattle.af_names.specs.CivilDays.{CivilDay, civil_day}

-- `2024-06-19`
abbrev pub day_text : CivilDay → List ℕ
day_text at = pad4 at.year ++ codes "-" ++ pad2 at.month ++ codes "-" ++ pad2 at.day

-- `.000001`, or nothing where there is no part of a second
abbrev pub fraction_text : ℕ → List ℕ
fraction_text micros =
    if micros == 0 then []
    else codes "." ++ pad2 (micros / 10_000) ++ pad2 (micros / 100 % 100) ++ pad2 (micros % 100)

-- `17:30:05`, and its fraction, of the microseconds since midnight
abbrev pub clock_text : ℕ → List ℕ
clock_text micros =
    pad2 (micros / 3_600_000_000) ++ codes ":" ++ pad2 (micros / 60_000_000 % 60)
    ++ codes ":" ++ pad2 (micros / 1_000_000 % 60) ++ fraction_text (micros % 1_000_000)

-- the text of the instant of that many microseconds since 1970-01-01T00:00:00Z
abbrev pub isoformat : ℕ → List ℕ
isoformat micros =
    day_text (civil_day (micros / 86_400_000_000)) ++ codes "T" ++ clock_text (micros % 86_400_000_000)
    ++ codes "+00:00"
