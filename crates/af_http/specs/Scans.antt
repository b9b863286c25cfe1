-- The whole lines found at the front of a text. They stay the same when more bytes come, so they are not searched again.
use Rattle.std.specs.Prelude.{◌≡◌, ◌≤◌, ℕ, false, List, ◌++◌, length, drop}
use Rattle.std.specs.List.{list_any}
use Rattle.af_http.specs.Lines.{lines_of, text_of, is_blank}
use Rattle.af_http.specs.declared.scan.Scan.{Scan}

-- the lines of the text are these first, none of them empty, and then those of the rest
pub record Passed (bytes rest : List ℕ) (at count : ℕ) : Type 0 where
  pub front : List (List ℕ)
  pub counted : count ≡ length front
  pub few : count ≤ at
  pub plain : list_any is_blank front ≡ false
  pub joined : bytes ≡ text_of front ++ rest
  pub at_is : at ≡ length (text_of front)
  pub lines : (tail : List ℕ) → lines_of (bytes ++ tail) ≡ front ++ lines_of (rest ++ tail)

-- these bytes at the front of the text are so many whole lines, none of them empty
abbrev pub IsScanned : List ℕ → Scan → Type 0
IsScanned bytes scan = Passed bytes (drop scan.bytes bytes) scan.bytes scan.lines
