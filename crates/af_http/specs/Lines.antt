-- The lines of a text (RFC 9112, section 2.2: a line ends in CR LF, and a recipient may take a single LF for its end).
use Rattle.std.specs.Prelude.{◌≢◌, ◌<◌, ℕ, Bool, List, [], ◌∷◌, ◌++◌, ◌==◌, cond, false, length, get_or}

-- a byte goes onto the first line
abbrev pub onto : ℕ → List (List ℕ) → List (List ℕ)
onto b [] = (b ∷ []) ∷ []
onto b (line ∷ lines) = (b ∷ line) ∷ lines

-- each line with the line feed that ends it; what follows the last line feed is the last line
abbrev pub lines_of : List ℕ → List (List ℕ)
lines_of [] = []
lines_of (b ∷ bytes) = cond (b == 10) ((b ∷ []) ∷ lines_of bytes) (onto b (lines_of bytes))

-- the text of these lines
abbrev pub text_of : List (List ℕ) → List ℕ
text_of [] = []
text_of (line ∷ lines) = line ++ text_of lines

-- an empty line: its end alone, LF or CR LF
abbrev pub is_blank : List ℕ → Bool
is_blank [] = false
is_blank (a ∷ []) = a == 10
is_blank (a ∷ b ∷ []) = cond (a == 13) (b == 10) false
is_blank (a ∷ b ∷ c ∷ rest) = false

-- the lines from the first on that isn't empty
abbrev pub after_blanks : List (List ℕ) → List (List ℕ)
after_blanks [] = []
after_blanks (line ∷ lines) = cond (is_blank line) (after_blanks lines) (line ∷ lines)

-- the first line is an empty one
abbrev pub begins_blank : List (List ℕ) → Bool
begins_blank [] = false
begins_blank (line ∷ lines) = is_blank line

-- no line ends in the text
abbrev pub HasNoLine : List ℕ → Type 0
HasNoLine bytes = (k : ℕ) → k < length bytes → get_or bytes k 0 ≢ 10
