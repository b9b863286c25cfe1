-- What an encoded text decodes to: a `+` as a space, and each escape as its byte.
use Rattle.std.proofs.Common.{◌≡◌, refl, sym, ◌∙◌, ap, ap₂, ℕ, ◌+◌, ◌-◌, ◌*◌, ◌<◌, ◌≤◌, length, Bool, true, false, nat_lt, List, [], ◌∷◌, map, arith, bytes_eq}
use Rattle.std.specs.Prelude.{min, ◌==◌, ◌&&◌, ◌||◌, cond, if◌then◌else◌, Option, Some, None}
use Rattle.std.specs.Char.{is_ascii_digit, digit_value}
use Rattle.std.specs.List.{find, list_any, list_all}
use Rattle.std.specs.Option.{option_map}
use Rattle.std.specs.Str.Parse.{digits_value, digits_value_after}
use Rattle.std.proofs.lemmas.Bool.{and_right, both_ways, cond_both, lt-ltb}
use Rattle.std.proofs.lemmas.Bool.Decides.{nat_tests}
use Rattle.std.proofs.lemmas.Slice.Eq.{bytes_eq-Decides}
use Rattle.form_urlencoded.specs.Form.{decode, parse, plus_to_space, raw_pairs}
use Rattle.percent_encoding.specs.Percent.{percent_decode, is_escape}
use Rattle.percent_encoding.proofs.PercentLemmas.{length-percent_decode}
use Rattle.af_policy.specs.declared.bad_input.Parameter.{Parameter}
use Rattle.af_policy.specs.declared.bad_input.Parameter.TheVariants.{Limit, Offset}
use Rattle.af_listing.specs.Windows.{asked_of, last_number, name_of, number_in, number_or, value_of}

abbrev pub is_plus : ℕ → Bool
is_plus byte = byte == 43

abbrev is_space : ℕ → Bool
is_space byte = byte == 32

-- ---- a text without `+`

no_plus : (text : List ℕ) → list_any is_plus text ≡ false → map plus_to_space text ≡ text
no_plus [] none = refl
no_plus (b ∷ text) none = by (b == 43) refl (no_plus text) none
  where
    by : (t : Bool) → (b == 43) ≡ t → (list_any is_plus text ≡ false → map plus_to_space text ≡ text) → (t || list_any is_plus text) ≡ false → map plus_to_space (b ∷ text) ≡ b ∷ text
    by true is after none = absurd (cc)
    by false is after none = ap₂ (λ (c : ℕ) (cs : List ℕ). c ∷ cs) (ap (λ (t : Bool). if t then 32 else b) is) (after none)

pub decode_plain : (text : List ℕ) → list_any is_plus text ≡ false → decode text ≡ percent_decode text
decode_plain text none = ap percent_decode (no_plus text none)

-- ---- a text with a `+` decodes to one with a space

or_true : (t : Bool) → (t || true) ≡ true
or_true true = refl
or_true false = refl

or_right : (t u : Bool) → u ≡ true → (t || u) ≡ true
or_right t u is = ap (λ (v : Bool). t || v) is ∙ or_true t

plus_is_space : (text : List ℕ) → list_any is_plus text ≡ true → list_any is_space (map plus_to_space text) ≡ true
plus_is_space [] some = absurd (cc)
plus_is_space (b ∷ text) some = by (b == 43) refl (plus_is_space text) some
  where
    by : (t : Bool) → (b == 43) ≡ t → (list_any is_plus text ≡ true → list_any is_space (map plus_to_space text) ≡ true) → (t || list_any is_plus text) ≡ true → list_any is_space (map plus_to_space (b ∷ text)) ≡ true
    by true is after some = ap (λ (t : Bool). (if t then 32 else b) == 32 || list_any is_space (map plus_to_space text)) is
    by false is after some = or_right (plus_to_space b == 32) (list_any is_space (map plus_to_space text)) (after some)

-- a space is neither `%` nor a hexadecimal digit
no_space : (b high low : ℕ) → is_escape b high low ≡ true → ((b == 32) ≡ false) × ((high == 32) ≡ false) × ((low == 32) ≡ false)
no_space b high low escape = (grind (arith, nat_tests), grind (arith, nat_tests), grind (arith, nat_tests))

past_three : (t u v w : Bool) → t ≡ false → u ≡ false → v ≡ false → (t || (u || (v || w))) ≡ true → w ≡ true
past_three false false false w t u v some = some
past_three true u v w is_t is_u is_v some = absurd (cc)
past_three false true v w is_t is_u is_v some = absurd (cc)
past_three false false true w is_t is_u is_v some = absurd (cc)

spaces_stay : (text : List ℕ) → list_any is_space text ≡ true → list_any is_space (percent_decode text) ≡ true
unfolding percent_decode
spaces_stay [] some = some
spaces_stay (b ∷ []) some = some
spaces_stay (b ∷ c ∷ []) some = some
spaces_stay (b ∷ high ∷ low ∷ rest) some =
    let after_escape = spaces_stay rest in
    let after_byte = spaces_stay (high ∷ low ∷ rest) in
    cond_both (is_escape b high low) ((16 * digit_value high + digit_value low) ∷ percent_decode rest) (b ∷ percent_decode (high ∷ low ∷ rest)) (λ (x : List ℕ). list_any is_space x ≡ true)
    (λ escape. let other = no_space b high low escape in or_right ((16 * digit_value high + digit_value low) == 32) (list_any is_space (percent_decode rest)) (after_escape (past_three (b == 32) (high == 32) (low == 32) (list_any is_space rest) other.0 other.1 other.2 some)))
    (λ escape. by (b == 32) refl after_byte some)
  where
    by : (t : Bool) → (b == 32) ≡ t → (list_any is_space (high ∷ low ∷ rest) ≡ true → list_any is_space (percent_decode (high ∷ low ∷ rest)) ≡ true) → (t || list_any is_space (high ∷ low ∷ rest)) ≡ true → (b == 32 || list_any is_space (percent_decode (high ∷ low ∷ rest))) ≡ true
    by true is after some = ap (λ (t : Bool). t || list_any is_space (percent_decode (high ∷ low ∷ rest))) is
    by false is after some = or_right (b == 32) (list_any is_space (percent_decode (high ∷ low ∷ rest))) (after some)

pub decode_plus : (text : List ℕ) → list_any is_plus text ≡ true → list_any is_space (decode text) ≡ true
decode_plus text some = spaces_stay (map plus_to_space text) (plus_is_space text some)

-- ---- names

no_space_in_name : (parameter : Parameter) → list_any is_space (name_of parameter) ≡ false
no_space_in_name Limit = refl
no_space_in_name Offset = refl

pub plus_in_no_name : (text : List ℕ) (parameter : Parameter) → list_any is_plus text ≡ true → bytes_eq (decode text) (name_of parameter) ≡ false
plus_in_no_name text parameter some = by (bytes_eq (decode text) (name_of parameter)) refl
  where
    by : (t : Bool) → bytes_eq (decode text) (name_of parameter) ≡ t → t ≡ false
    by false is = refl
    by true is =
        let same = (bytes_eq-Decides (decode text) (name_of parameter)).0 is in
        let space = sym (ap (list_any is_space) same) ∙ decode_plus text some in
        absurd (both_ways (list_any is_space (name_of parameter)) (no_space_in_name parameter) space)

pub plain_name : (text : List ℕ) (parameter : Parameter) (r : Bool) → list_any is_plus text ≡ false → r ≡ bytes_eq (percent_decode text) (name_of parameter) → r ≡ bytes_eq (decode text) (name_of parameter)
plain_name text parameter r none is = is ∙ sym (ap (λ (t : List ℕ). bytes_eq t (name_of parameter)) (decode_plain text none))

-- ---- numbers

-- what digits behind a number write
abbrev pub numbered : ℕ → List ℕ → Option ℕ
numbered n text = if list_all is_ascii_digit text then Some (min last_number (digits_value_after 10 n text)) else None

no_digits : (text : List ℕ) → list_any is_space text ≡ true → list_all is_ascii_digit text ≡ false
no_digits [] some = absurd (cc)
no_digits (b ∷ text) some = by (b == 32) refl (no_digits text) some
  where
    by : (t : Bool) → (b == 32) ≡ t → (list_any is_space text ≡ true → list_all is_ascii_digit text ≡ false) → (t || list_any is_space text) ≡ true → list_all is_ascii_digit (b ∷ text) ≡ false
    by true is after some = let space : is_ascii_digit b ≡ false = grind (arith, nat_tests) in ap (λ (t : Bool). t && list_all is_ascii_digit text) space
    by false is after some = and_right (is_ascii_digit b) (list_all is_ascii_digit text) (after some)

pub plus_in_no_number : (text : List ℕ) → list_any is_plus text ≡ true → number_in (decode text) ≡ None
plus_in_no_number text some =
    ap (λ (t : Bool). if t then Some (min last_number (digits_value 10 (decode text))) else None)
    (and_right (nat_lt 0 (length (decode text))) (list_all is_ascii_digit (decode text)) (no_digits (decode text) (decode_plus text some)))

pub nothing_is_no_number : (text : List ℕ) → length text ≡ 0 → number_in (decode text) ≡ None
unfolding percent_decode
nothing_is_no_number [] empty = refl
nothing_is_no_number (b ∷ text) empty = absurd (omega (arith, empty))

pub number_from : (text : List ℕ) → (length text ≡ 0 → ⊥) → list_any is_plus text ≡ false → number_in (decode text) ≡ numbered 0 (percent_decode text)
number_from text some none =
    let long = (length-percent_decode text).1 in
    let more : 0 < length (percent_decode text) = omega (arith, long, some) in
    ap number_in (decode_plain text none)
    ∙ ap (λ (t : Bool). if t && list_all is_ascii_digit (percent_decode text) then Some (min last_number (digits_value 10 (percent_decode text))) else None) (lt-ltb 0 (length (percent_decode text)) more)

-- a number is cut once or at each digit
cut_digit : (n d : ℕ) → min last_number (min last_number n * 10 + d) ≡ min last_number (n * 10 + d)
cut_digit n d = omega arith

cut_digits : (text : List ℕ) (n : ℕ) → min last_number (digits_value_after 10 (min last_number n) text) ≡ min last_number (digits_value_after 10 n text)
cut_digits [] n = omega arith
cut_digits (b ∷ text) n =
    sym (cut_digits text (min last_number n * 10 + digit_value b))
    ∙ ap (λ (k : ℕ). min last_number (digits_value_after 10 k text)) (cut_digit n (digit_value b))
    ∙ cut_digits text (n * 10 + digit_value b)

pub no_digit : (n b : ℕ) (text : List ℕ) → is_ascii_digit b ≡ false → numbered n (b ∷ text) ≡ None
no_digit n b text is = ap (λ (t : Bool). if t && list_all is_ascii_digit text then Some (min last_number (digits_value_after 10 n (b ∷ text))) else None) is

pub one_digit : (n b : ℕ) (text : List ℕ) → is_ascii_digit b ≡ true → numbered (min (min (n * 10) last_number + (b - 48)) last_number) text ≡ numbered n (b ∷ text)
one_digit n b text is =
    let value : digit_value b ≡ b - 48 = grind (arith, nat_tests) in
    let first : min (min (n * 10) last_number + (b - 48)) last_number ≡ min last_number (n * 10 + digit_value b) = omega (arith, value) in
    ap (λ (k : ℕ). numbered k text) first
    ∙ ap (λ (k : ℕ). if list_all is_ascii_digit text then Some k else None) (cut_digits text (n * 10 + digit_value b))
    ∙ sym (ap (λ (t : Bool). if t && list_all is_ascii_digit text then Some (min last_number (digits_value_after 10 n (b ∷ text))) else None) is)

pub whole_number : (n : ℕ) → n ≤ last_number → numbered n [] ≡ Some n
whole_number n within = let same : min last_number n ≡ n = omega (arith, within) in ap Some same

pub within_last : (n : ℕ) → min n last_number ≤ last_number
within_last n = omega arith

-- ---- parameters

find_map : {X Y : Type 0} (p : Y → Bool) (f : X → Y) (xs : List X) → find p (map f xs) ≡ option_map f (find (λ (x : X). p (f x)) xs)
find_map p f [] = refl
find_map p f (x ∷ xs) = by (p (f x)) refl (find_map p f xs)
  where
    by : (t : Bool) → p (f x) ≡ t → find p (map f xs) ≡ option_map f (find (λ x. p (f x)) xs) → cond t (Some (f x)) (find p (map f xs)) ≡ option_map f (cond t (Some x) (find (λ x. p (f x)) xs))
    by true is after = refl
    by false is after = after

-- the first pair of a name, still encoded
abbrev pub found_in : Parameter → List ℕ → Option (List ℕ × List ℕ)
found_in parameter query = find (λ pair. bytes_eq (decode pair.0) (name_of parameter)) (raw_pairs query)

pub value_found : (parameter : Parameter) (query : List ℕ) → value_of (name_of parameter) (parse query) ≡ option_map (λ pair. decode pair.1) (found_in parameter query)
value_found parameter query =
    ap (option_map (λ (pair : List ℕ × List ℕ). pair.1)) (find_map (λ (pair : List ℕ × List ℕ). bytes_eq pair.0 (name_of parameter)) (λ (pair : List ℕ × List ℕ). (decode pair.0, decode pair.1)) (raw_pairs query))
    ∙ twice (found_in parameter query)
  where
    twice : (found : Option (List ℕ × List ℕ)) → option_map (λ (pair : List ℕ × List ℕ). pair.1) (option_map (λ (pair : List ℕ × List ℕ). (decode pair.0, decode pair.1)) found) ≡ option_map (λ (pair : List ℕ × List ℕ). decode pair.1) found
    twice None = refl
    twice (Some pair) = refl

pub asked_found : (parameter : Parameter) (absent : ℕ) (query : List ℕ) (found : Option (List ℕ × List ℕ)) → found ≡ found_in parameter query → number_or absent parameter (option_map (λ pair. decode pair.1) found) ≡ asked_of parameter absent query
asked_found parameter absent query found is =
    ap (λ (f : Option (List ℕ × List ℕ)). number_or absent parameter (option_map (λ (pair : List ℕ × List ℕ). decode pair.1) f)) is
    ∙ sym (ap (number_or absent parameter) (value_found parameter query))
