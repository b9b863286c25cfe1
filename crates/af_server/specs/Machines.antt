-- What a server has of the machine that it runs on (this product's own rule).
use Rattle.std.specs.Prelude.{◌≡◌, ◌≢◌, ◌/◌, ℕ, min, Result, Ok, Err}
use Rattle.std.specs.declared.time.Duration.{Duration}
use Rattle.std.specs.declared.io.Error.{Error}
use Rattle.std.specs.declared.io.ErrorKind.{ErrorKind}
use Rattle.std.specs.Duration.{as_nanos}
use Rattle.af_names.specs.Instants.{last_micros}

-- which instants its clock may tell; which port it may give where one is asked for, and for which errors it may give none; and for which errors
-- it may give no more connections
pub record Behaviour : Type 1 where
  pub tells : ℕ → Type 0
  pub gives : ℕ → ℕ → Type 0
  pub refuses : ErrorKind → Type 0
  pub ends : ErrorKind → Type 0

-- the instant of what a clock has answered, in microseconds since 1970: of a time outside the range of instants its nearest end, and the first
-- instant where the clock can't be read
abbrev pub instant_by : Result Duration Error → ℕ
instant_by (Ok time) = min (as_nanos time / 1000) last_micros
instant_by (Err error) = 0

-- a clock may tell this instant
abbrev pub IsTold : ℕ → Type 0
IsTold at = (answer : Result Duration Error) × (at ≡ instant_by answer)

-- the port that is asked for, but for 0, which is any
abbrev pub IsPort : ℕ → ℕ → Type 0
IsPort asked port = asked ≢ 0 → port ≡ asked
