-- Names: which texts are a name of each kind, and the fault of a text that is none.
-- The ids of DAGs, tasks and runs follow Airflow 2, "DAGs" and "DAG Runs" (ASCII letters, digits and a few marks);
-- the bounds and the grammar of the other names are this product's own rule.
use Rattle.std.specs.Prelude.{ℕ, List, [], ◌∷◌, length, Bool, false, not, ◌&&◌, ◌||◌, ◌==◌, nat_eq, nat_lt, Result, Ok, Err, if◌then◌else◌}
use Rattle.std.specs.List.{list_all}
use Rattle.std.specs.Int.{is_in_range}
use Rattle.std.specs.Char.{is_ascii_digit}
use Rattle.std.specs.Cmp.Lexicographic.{pointwise}
use Rattle.af_names.specs.declared.name_error.NameError.{NameError}
use Rattle.af_names.specs.declared.name_error.NameError.TheVariants.{BadName, TooLong}

-- what makes a text a name of one kind
pub record Grammar : Type 0 where
  -- the bytes that may stand in it
  pub allowed : ℕ → Bool
  -- the texts that are no name although bytes and length would make them one
  pub reserved : List ℕ → Bool
  -- the most bytes that it has
  pub longest : ℕ

-- a letter, a digit, `_`, `-` or `.`
abbrev pub is_id_byte : ℕ → Bool
is_id_byte byte =
    is_in_range 65 90 byte || is_in_range 97 122 byte || is_ascii_digit byte
    || (byte == 95) || (byte == 45) || (byte == 46)

-- also `~`, `:` or `+`
abbrev pub is_run_byte : ℕ → Bool
is_run_byte byte = is_id_byte byte || (byte == 126) || (byte == 58) || (byte == 43)

-- a byte of printed ASCII, the space among them
abbrev pub is_printed_byte : ℕ → Bool
is_printed_byte byte = is_in_range 32 126 byte

-- nothing is reserved
abbrev pub none_reserved : List ℕ → Bool
none_reserved text = false

-- `~` alone, which stands for "each" where a path wants an id
abbrev pub is_tilde : List ℕ → Bool
is_tilde text = pointwise nat_eq text (126 ∷ [])

-- ids of DAGs and of tasks
abbrev pub id_grammar : Grammar
id_grammar = record { allowed = is_id_byte; reserved = none_reserved; longest = 250 }

-- ids of runs
abbrev pub run_id_grammar : Grammar
run_id_grammar = record { allowed = is_run_byte; reserved = is_tilde; longest = 250 }

-- names of pools and keys of variables
abbrev pub row_name_grammar : Grammar
row_name_grammar = record { allowed = is_printed_byte; reserved = none_reserved; longest = 250 }

-- names of users and of roles
abbrev pub account_name_grammar : Grammar
account_name_grammar = record { allowed = is_printed_byte; reserved = none_reserved; longest = 64 }

-- at least one byte, and each of them allowed
abbrev pub is_spelled : Grammar → List ℕ → Bool
is_spelled grammar text = not (length text == 0) && list_all grammar.allowed text

-- the name that a text is, or its first fault
abbrev pub named : Grammar → List ℕ → Result (List ℕ) NameError
named grammar text =
    if not (is_spelled grammar text) || grammar.reserved text then Err BadName
    else (if nat_lt grammar.longest (length text) then Err TooLong else Ok text)
