-- An instant or none in one number (this product's own rule): its microseconds, or the largest number of 64 bits.
use Rattle.std.specs.Prelude.{ℕ, Option, Some, None, nat_le, ◌≡◌, if◌then◌else◌, unwrap_or}
use Rattle.af_names.specs.Instants.{last_micros}

-- the number that stands for none
abbrev pub no_micros : ℕ
no_micros = 18_446_744_073_709_551_615

-- what a number stands for
abbrev pub instant_at : ℕ → Option ℕ
instant_at micros = if nat_le micros last_micros then Some micros else None

-- the number that stands for an instant, or for none
abbrev pub micros_of : Option ℕ → ℕ
micros_of instant = unwrap_or instant no_micros

-- a number that stands for an instant or for none is the only one that does
abbrev pub StandsForOne : ℕ → Type 0
StandsForOne micros = micros_of (instant_at micros) ≡ micros
