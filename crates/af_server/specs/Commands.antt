-- What the words that the program is given ask for (this product's own rule).
use Rattle.std.specs.Prelude.{◌≡◌, ◌≤◌, ◌⊎◌, ℕ, List, [], ◌∷◌, bytes_eq, codes, string_bytes, Option, Some, None, Ok, IsErr, MatchBool}
use Rattle.std.specs.Option.{SomeIff}
use Rattle.std.specs.Str.Parse.{IsNumeral, digits_value}
use Rattle.af_names.specs.Instants.{instant_of}
use Rattle.af_server.specs.declared.command.Command.{Command}
use Rattle.af_server.specs.declared.command.Command.TheVariants.{Once, Serve, Verify, Usage}

-- the two to four words after the program's name, where there are no more and no fewer
abbrev pub few_words : List (List ℕ) → Option (List ℕ × List ℕ × Option (List ℕ) × Option (List ℕ))
few_words (program ∷ verb ∷ path ∷ []) = Some (verb, path, None, None)
few_words (program ∷ verb ∷ path ∷ third ∷ []) = Some (verb, path, Some third, None)
few_words (program ∷ verb ∷ path ∷ third ∷ fourth ∷ []) = Some (verb, path, Some third, Some fourth)
few_words words = None

-- ---- numbers

-- A text states a number in a range: it is decimal digits, one at least, and what they write is in the range. Else it states none.
abbrev pub States : ℕ → ℕ → List ℕ → Option ℕ → Type 0
States least most text number =
    SomeIff number (IsNumeral 10 text × (least ≤ digits_value 10 text) × (digits_value 10 text ≤ most)) (digits_value 10 text)

-- the greatest number among the words
abbrev pub most_number : ℕ
most_number = 65_535

-- a port is a number from 0 to 65,535
abbrev pub IsPortIn : List ℕ → Option ℕ → Type 0
IsPortIn text port = States 0 most_number text port

-- there are 1 to 16 workers
abbrev pub IsCountIn : List ℕ → Option ℕ → Type 0
IsCountIn text count = States 1 16 text count

-- ---- commands

-- one connection under the configuration at this path, at the moment that this text states; where it states none, how the
-- program is called is asked for
abbrev pub AsksOnce : List ℕ → List ℕ → Command → Type 0
AsksOnce path moment (Once config now) = (string_bytes config ≡ path) × (instant_of moment ≡ Ok now)
AsksOnce path moment (Serve config port count) = ⊥
AsksOnce path moment (Verify trace) = ⊥
AsksOnce path moment Usage = IsErr (instant_of moment)

-- a server under the configuration at this path, on the port and with the number of workers that these texts state; where one of them states
-- none, how the program is called is asked for
abbrev pub AsksServe : List ℕ → List ℕ → List ℕ → Command → Type 0
AsksServe path port workers (Once config now) = ⊥
AsksServe path port workers (Serve config p count) = (string_bytes config ≡ path) × IsPortIn port (Some p) × IsCountIn workers (Some count)
AsksServe path port workers (Verify trace) = ⊥
AsksServe path port workers Usage = IsPortIn port None ⊎ IsCountIn workers None

-- whether the answers of the trace at this path are those of the run of its steps
abbrev pub AsksVerify : List ℕ → Command → Type 0
AsksVerify path (Once config now) = ⊥
AsksVerify path (Serve config port count) = ⊥
AsksVerify path (Verify trace) = string_bytes trace ≡ path
AsksVerify path Usage = ⊥

-- `verify` and a path; `once`, a path and a moment; `serve`, a path, a port and a number of workers; of other words how the program is called
-- is asked for
abbrev pub AsksOf : List ℕ → List ℕ → Option (List ℕ) → Option (List ℕ) → Command → Type 0
AsksOf verb path None None command =
    MatchBool (bytes_eq verb (codes "verify")) (AsksVerify path command) (command ≡ Usage)
AsksOf verb path (Some moment) None command =
    MatchBool (bytes_eq verb (codes "once")) (AsksOnce path moment command) (command ≡ Usage)
AsksOf verb path (Some port) (Some workers) command =
    MatchBool (bytes_eq verb (codes "serve")) (AsksServe path port workers command) (command ≡ Usage)
AsksOf verb path None (Some word) command = command ≡ Usage

abbrev pub AsksFew : Option (List ℕ × List ℕ × Option (List ℕ) × Option (List ℕ)) → Command → Type 0
AsksFew None command = command ≡ Usage
AsksFew (Some words) command = AsksOf words.0 words.1 words.2 words.3 command

-- what the words ask for, of which the first is the program's name
abbrev pub Asks : List (List ℕ) → Command → Type 0
Asks words command = AsksFew (few_words words) command
