-- A length as the code counts it: right up to the limit, and one more than the limit for all that are greater.
use Rattle.std.specs.Prelude.{ℕ, ◌+◌, cond, nat_lt, Option}
use Rattle.std.specs.Option.{option_map}
use Rattle.af_http.specs.Limits.{body_limit}

abbrev pub cap : ℕ → ℕ
cap n = cond (nat_lt body_limit n) (body_limit + 1) n

abbrev pub capped : Option ℕ → Option ℕ
capped length = option_map cap length
