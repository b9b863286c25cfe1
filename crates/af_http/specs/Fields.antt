-- What the fields of a head say, from the list of their names and values.
use Rattle.std.specs.Prelude.{◌≡◌, ℕ, Bool, ◌==◌, ◌&&◌, cond, List, [], ◌∷◌, flat_map, map, length, take, drop, Option, Some, None, codes, nat_lt, slice_index, bytes_eq, true, false, if◌then◌else◌}
use Rattle.std.specs.List.{slice_split, list_any}
use Rattle.std.specs.Char.{to_ascii_lowercase}
use Rattle.httparse.specs.Grammar.{trim_ows}
use Rattle.af_http.specs.declared.fields.Named.{Named}
use Rattle.af_http.specs.declared.fields.Named.TheVariants.{Absent, Only, Several}

-- a field's name and its value
abbrev pub Header : Type 0
Header = List ℕ × List ℕ

-- two texts that differ in the case of ASCII letters at most
abbrev pub same_text : List ℕ → List ℕ → Bool
same_text a b = bytes_eq (map to_ascii_lowercase a) (map to_ascii_lowercase b)

-- the values of the fields of this name, in order (RFC 9110, section 5.1: names are read in any case)
abbrev pub values_named : List ℕ → List Header → List (List ℕ)
values_named name headers = flat_map (λ (h : Header). if same_text h.0 name then h.1 ∷ [] else []) headers

-- there is no value
abbrev pub is_absent : List (List ℕ) → Bool
is_absent [] = true
is_absent (value ∷ values) = false

-- there is one
abbrev pub is_only : List (List ℕ) → Bool
is_only [] = false
is_only (value ∷ []) = true
is_only (value ∷ other ∷ values) = false

-- the values are none, this one, or several
abbrev pub IsNamed : List (List ℕ) → Named → Type 0
IsNamed values Absent = values ≡ []
IsNamed values (Only value) = values ≡ value.now ∷ []
IsNamed values Several = nat_lt 1 (length values) ≡ true

-- what follows the spaces at the front
abbrev pub skip_spaces : List ℕ → List ℕ
skip_spaces [] = []
skip_spaces (b ∷ bytes) = cond (b == 32) (skip_spaces bytes) (b ∷ bytes)

-- the token that follows `Bearer`, in any case, and one or more spaces (RFC 6750, section 2.1)
abbrev pub bearer : List ℕ → Option (List ℕ)
bearer value =
    cond (nat_lt 6 (length value) && (same_text (take 6 value) (codes "bearer") && (slice_index value 6 == 32)))
    (Some (skip_spaces (drop 6 value))) None

-- the members of a list, which commas part, without the white space around each (RFC 9110, section 5.6.1)
abbrev pub members_of : List ℕ → List (List ℕ)
members_of value = slice_split (λ b. b == 44) value

-- one of them is this option, in any case
abbrev pub lists : List ℕ → List ℕ → Bool
lists option value = list_any (λ member. same_text (trim_ows member) option) (members_of value)
