-- The texts of a path's parts: how they are gathered.
use Rattle.std.proofs.Common.{◌≡◌, ◌≢◌, get_or, ◌<◌, ◌+◌, ◌++◌, ℕ, zero, suc, Bool, true, false, List, [], ◌∷◌, length, map, take, set, refl, sym, ap, subst, ◌∙◌, Option, Some, None, arith, append_assoc}
use Rattle.std.specs.Prelude.{IsUtf8, if◌then◌else◌}
use Rattle.std.specs.Str.{is_utf8}
use Rattle.std.proofs.lemmas.List.{append-nil, length-append}
use Rattle.std.proofs.lemmas.Str.{IsUtf8-from_is_utf8, is_utf8-from_IsUtf8}
use Rattle.percent_encoding.specs.Percent.{percent_decode}
use Rattle.percent_encoding.proofs.PercentLemmas.{percent_decode-nil, percent_decode_not_percent}
use Rattle.af_http.specs.Parts.{IsUnfitPart, with_all}
use Rattle.af_http.specs.Routes.{decoded}

-- ---- decoding

-- a part in which no escape begins is its text
pub decoded_plain : (part : List ℕ) → ((k : ℕ) → k < length part → get_or part k 0 ≢ 37) → percent_decode part ≡ part
decoded_plain [] none = percent_decode-nil
decoded_plain (b ∷ part) none =
    percent_decode_not_percent b part (none 0 (omega arith)) ∙ ap (λ t. b ∷ t) (decoded_plain part (λ k h. none (suc k) (omega arith)))

-- a byte more of a text that is decoded
pub byte_more : (old new rest later all : List ℕ) (byte : ℕ) → old ++ rest ≡ all → rest ≡ byte ∷ later → new ≡ old ++ byte ∷ [] → new ++ later ≡ all
byte_more old new rest later all byte came step put =
    ap (λ t. t ++ later) put ∙ append_assoc old (byte ∷ []) later ∙ ap (λ t. old ++ t) (sym step) ∙ came

-- it goes on behind so many bytes
pub longer_than : (old rest later all : List ℕ) (byte limit : ℕ) → old ++ rest ≡ all → rest ≡ byte ∷ later → length old ≡ limit → limit < length all
longer_than old rest later all byte limit came step full =
    let size : length all ≡ length old + length (byte ∷ later) = ap length (sym came ∙ ap (λ t. old ++ t) step) ∙ length-append old (byte ∷ later) in
    omega (arith, size, full)

-- or ends there
pub all_came : (old rest all : List ℕ) → old ++ rest ≡ all → rest ≡ [] → old ≡ all
all_came old rest all came none = sym (append-nil old) ∙ ap (λ t. old ++ t) (sym none) ∙ came

-- ---- gathering

-- a text put behind those that count
put_more : {X Y : Type 0} (f : X → Y) (xs : List X) (n : ℕ) (x : X) → n < length xs → map f (take (suc n) (set xs n x)) ≡ map f (take n xs) ++ f x ∷ []
put_more f [] n x within = absurd (omega (arith, within))
put_more f (y ∷ xs) zero x within = refl
put_more f (y ∷ xs) (suc n) x within = ap (λ t. f y ∷ t) (put_more f xs n x (omega (arith, within)))

pub one_put : {X Y : Type 0} (f : X → Y) (xs : List X) (n : ℕ) (x : X) → n < length xs → map f (take (n + 1) (set xs n x)) ≡ map f (take n xs) ++ f x ∷ []
one_put f xs n x within =
    let more : n + 1 ≡ suc n = omega arith in
    ap (λ k. map f (take k (set xs n x))) more ∙ put_more f xs n x within

pub decoded_text : (part text : List ℕ) → text ≡ percent_decode part → IsUtf8 text → decoded part ≡ Some text
decoded_text part text same utf8 =
    ap (λ (b : Bool). if b then Some (percent_decode part) else None) (is_utf8-from_IsUtf8 (percent_decode part) (subst IsUtf8 same utf8)) ∙ ap Some (sym same)

none_by : (bytes : List ℕ) (b : Bool) → is_utf8 bytes ≡ b → (IsUtf8 bytes → ⊥) → (if b then Some bytes else None) ≡ None
none_by bytes true is bad = absurd (bad (IsUtf8-from_is_utf8 bytes is))
none_by bytes false is bad = refl

decoded_none : (part : List ℕ) → (IsUtf8 (percent_decode part) → ⊥) → decoded part ≡ None
decoded_none part bad = none_by (percent_decode part) (is_utf8 (percent_decode part)) refl bad

-- a part that is no text, and one that is too long
pub unfit_bytes : (part bytes : List ℕ) → bytes ≡ percent_decode part → (IsUtf8 bytes → ⊥) → IsUnfitPart (decoded part)
unfit_bytes part bytes same bad = subst IsUnfitPart (sym (decoded_none part (λ utf8. bad (subst IsUtf8 (sym same) utf8)))) tt

pub none_before : (parts : Option (List (List ℕ))) → with_all [] parts ≡ parts
none_before None = refl
none_before (Some texts) = refl
