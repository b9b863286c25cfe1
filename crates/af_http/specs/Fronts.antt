-- Where the head of a request ends in a text. The empty lines before it are no part of it (RFC 9112, section 2.2).
use Rattle.std.specs.Prelude.{ℕ, Bool, ◌+◌, ◌||◌, List, [], ◌∷◌, ◌++◌, length, cond, nat_lt, Option, Some, None}
use Rattle.std.specs.Option.{option_map}
use Rattle.af_http.specs.Limits.{head_limit, field_limit}
use Rattle.af_http.specs.Lines.{lines_of, text_of, is_blank, after_blanks}

-- lines in front of the two parts
abbrev pub ahead : List (List ℕ) → List (List ℕ) × List (List ℕ) → List (List ℕ) × List (List ℕ)
ahead front s = (front ++ s.0, s.1)

-- the lines up to the first empty one, with that one, and the lines after it
abbrev pub split_head : List (List ℕ) → Option (List (List ℕ) × List (List ℕ))
split_head [] = None
split_head (line ∷ lines) =
    cond (is_blank line) (Some (line ∷ [], lines)) (option_map (ahead (line ∷ [])) (split_head lines))

-- what stands at the front of a text
pub data Front : Type 0 where
  -- empty lines alone, or nothing
  nothing : Front
  -- a part of a head
  part : Front
  -- more bytes than a head may have
  large : Front
  -- a head, its empty line included, and what follows it
  whole : List ℕ → List ℕ → Front

-- so many bytes, and no empty line among them
abbrev pub unfinished : ℕ → Front
unfinished size = cond (nat_lt head_limit size) large part

-- So many bytes are too many for a head, or so many lines: there is one before the fields, and the empty one after them.
abbrev pub is_large : ℕ → ℕ → Bool
is_large size lines = nat_lt (head_limit + 1) size || nat_lt (field_limit + 2) lines

-- a head of these lines, and the lines after it
abbrev pub finished : List (List ℕ) → List (List ℕ) → Front
finished head rest =
    cond (is_large (length (text_of head)) (length head)) large (whole (text_of head) (text_of rest))

-- the lines, and the head that they begin with, if it is whole
abbrev pub fronted_by : List (List ℕ) → Option (List (List ℕ) × List (List ℕ)) → Front
fronted_by lines None = unfinished (length (text_of lines))
fronted_by lines (Some s) = finished s.0 s.1

abbrev pub fronted : List (List ℕ) → Front
fronted [] = nothing
fronted (line ∷ lines) = fronted_by (line ∷ lines) (split_head (line ∷ lines))

-- what stands at the front of this text
abbrev pub front_of : List ℕ → Front
front_of text = fronted (after_blanks (lines_of text))
