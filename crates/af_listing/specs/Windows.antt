-- What a query asks of a listing: how many rows are told at most, and how many are passed over before them (Airflow 2, "Stable
-- REST API": collections are cut by `limit` and `offset`). A query is a form (URL Standard, "application/x-www-form-urlencoded"): names and values are
-- decoded, and what has no `=` has the empty text as its value.
use Rattle.std.specs.Prelude.{ℕ, min, ◌&&◌, List, length, nat_lt, Option, None, Some, ok_or, Result, Ok, Err, codes, bytes_eq, if◌then◌else◌}
use Rattle.std.specs.Char.{is_ascii_digit}
use Rattle.std.specs.List.{find, list_all}
use Rattle.std.specs.Option.{option_map}
use Rattle.std.specs.Str.Parse.{digits_value}
use Rattle.form_urlencoded.specs.Form.{parse}
use Rattle.af_policy.specs.declared.bad_input.Parameter.{Parameter}
use Rattle.af_policy.specs.declared.bad_input.Parameter.TheVariants.{Limit, Offset}

-- `offset` rows are passed over, and then at most `limit` are told
pub record Cut : Type 0 where
  pub limit : ℕ
  pub offset : ℕ

-- the most rows that a page has, also where no limit is asked for
abbrev pub most_rows : ℕ
most_rows = 100

-- the last number of 64 bits: no list has more rows
abbrev pub last_number : ℕ
last_number = 18_446_744_073_709_551_615

-- the number that a text writes, if it is decimal digits and one at least; what is past the last number is taken as that
abbrev pub number_in : List ℕ → Option ℕ
number_in text =
    if nat_lt 0 (length text) && list_all is_ascii_digit text then Some (min last_number (digits_value 10 text)) else None

-- the value of the first pair of a name
abbrev pub value_of : List ℕ → List (List ℕ × List ℕ) → Option (List ℕ)
value_of name pairs = option_map (λ pair. pair.1) (find (λ pair. bytes_eq pair.0 name) pairs)

abbrev pub name_of : Parameter → List ℕ
name_of Limit = codes "limit"
name_of Offset = codes "offset"

-- the number of a parameter, or the one that stands where the parameter is absent
abbrev pub number_or : ℕ → Parameter → Option (List ℕ) → Result ℕ Parameter
number_or absent parameter None = Ok absent
number_or absent parameter (Some text) = ok_or (number_in text) parameter

abbrev pub asked_of : Parameter → ℕ → List ℕ → Result ℕ Parameter
asked_of parameter absent query = number_or absent parameter (value_of (name_of parameter) (parse query))

-- what both say; the fault of the limit comes first
abbrev pub cut_by : Result ℕ Parameter → Result ℕ Parameter → Result Cut Parameter
cut_by (Ok limit) (Ok offset) = Ok (record { limit = min limit most_rows; offset = offset })
cut_by (Ok limit) (Err fault) = Err fault
cut_by (Err fault) offset = Err fault

-- what a query says, or its first faulty parameter
abbrev pub window_of : List ℕ → Result Cut Parameter
window_of query = cut_by (asked_of Limit most_rows query) (asked_of Offset 0 query)
