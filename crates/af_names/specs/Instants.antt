-- Instants: microseconds since 1970-01-01T00:00:00Z, from then to the end of the year 9998.
-- The grammar of their texts is jiff's reader of Temporal texts (RFC 3339 and RFC 9557, with an offset required).
use Rattle.std.specs.Prelude.{ℕ, ◌/◌, ℤ, pos, negsuc, List, Result, Ok, Err, nat_lt, if◌then◌else◌}
use Rattle.jiff.specs.Words.{Error, parse_timestamp}
use Rattle.af_names.specs.declared.instant_error.InstantError.{InstantError}
use Rattle.af_names.specs.declared.instant_error.InstantError.TheVariants.{BadInstant, OutOfRange}

-- the last microsecond of the year 9998
abbrev pub last_micros : ℕ
last_micros = 253_370_764_799_999_999

-- the instant of a moment in nanoseconds: its range is tested before what is finer than a microsecond is cut off
abbrev pub instant_at : ℤ → Result ℕ InstantError
instant_at (negsuc n) = Err OutOfRange
instant_at (pos nanos) =
    if nat_lt nanos 253_370_764_800_000_000_000 then Ok (nanos / 1000) else Err OutOfRange

-- the instant that a moment read is, or what it is not for
abbrev pub of_moment : Result ℤ Error → Result ℕ InstantError
of_moment (Err e) = Err BadInstant
of_moment (Ok nanos) = instant_at nanos

-- the instant that a text states
abbrev pub instant_of : List ℕ → Result ℕ InstantError
instant_of text = of_moment (parse_timestamp text)
