-- What is told is read back: names, digests, lists.
use Rattle.std.proofs.Common.{◌≡◌, ◌∙◌, ◌*◌, ℕ, Bool, cond, true, false, List, [], ◌∷◌, ◌++◌, length, map, Option, ok_or, Result, Ok, Err, refl, sym, ap, arith, append_assoc, append-nil}
use Rattle.std.specs.Prelude.{⊤}
use Rattle.std.specs.Result.{result_ok}
use Rattle.std.proofs.lemmas.Slice.Eq.{bytes_eq-Decides}
use Rattle.hex.specs.Hex.{decode_of, decode_sized, encode_lower, lower_digits}
use Rattle.hex.proofs.HexLemmas.{decode_of-encode_lower, length-encode_with}
use Rattle.serde_json.specs.Data.{Data}
use Rattle.serde_json.specs.View.{items_of}
use Rattle.af_names.specs.Names.{Grammar}
use Rattle.af_base.specs.Members.{values_of}
use Rattle.af_base.specs.Readings.{◌>>=◌, taking}
use Rattle.serde_json.specs.Written.{compact_text}
use Rattle.af_store.specs.Bodies.{list_of, same_text}
use Rattle.af_store.specs.Members.{digest_of, list_value, name_of, row_in, taken, told_as}
use Rattle.af_store.specs.Names.{IsDigest, IsName}
use Rattle.af_store.specs.declared.line_fault.LineFault.{LineFault}
use Rattle.af_store.specs.declared.line_fault.LineFault.TheVariants.{NotALine}
use Rattle.af_store.proofs.TextLemmas.{IsTold, ItemsAreTold, read-compact_text}

-- a name is read as itself
pub name_of-IsName : (grammar : Grammar) (name : List ℕ) → IsName grammar name → name_of grammar name ≡ Ok name
name_of-IsName grammar name is = ap (λ r. ok_or (result_ok r) NotALine) is

-- the digits of a digest are read as the digest
sized : (text bytes : List ℕ) → length text ≡ 64 → decode_of text ≡ Ok bytes → decode_sized text 32 ≡ Ok bytes
sized text bytes size whole = rw (size) (rw size at whole)

pub digest_of-IsDigest : (digest : List ℕ) → IsDigest digest → digest_of (encode_lower digest) ≡ Ok digest
digest_of-IsDigest digest is =
    ap (λ r. ok_or (result_ok r) NotALine)
    (sized (encode_lower digest) digest (length-encode_with lower_digits digest ∙ ap (λ (n : ℕ). 2 * n) is.size) (decode_of-encode_lower digest is.bytes))

-- ---- lists

module _ {X : Type 0} (told : X → Data) (read_item : Data → Result X LineFault) where
  -- each of these is read back
  abbrev pub AreRead : List X → Type 0
  AreRead [] = ⊤
  AreRead (x ∷ xs) = (read_item (told x) ≡ Ok x) × AreRead xs

  all_taken : (xs made : List X) → AreRead xs → taking (taken read_item) made (values_of (items_of (map told xs))) ≡ Ok (made ++ xs)
  all_taken [] made h = ap Ok (sym (append-nil made))
  all_taken (x ∷ xs) made h =
      ap (λ (r : Result X LineFault). (r >>= (λ (y : X). Ok (made ++ y ∷ []))) >>= (λ (more : List X). taking (taken read_item) more (values_of (items_of (map told xs))))) h.0
      ∙ all_taken xs (made ++ x ∷ []) h.1 ∙ ap Ok (append_assoc made (x ∷ []) xs)

  -- a list is read back
  pub list_value-list_of : (xs : List X) → AreRead xs → list_value read_item (list_of told xs) ≡ Ok xs
  list_value-list_of xs h = all_taken xs [] h

-- where each item reads back as a value, all do
pub items_told : {X : Type 0} (told : X → Data) (n : ℕ) → ((x : X) → IsTold n (told x)) → (xs : List X) → ItemsAreTold n (items_of (map told xs))
items_told told n each [] = tt
items_told told n each (x ∷ xs) = (each x, items_told told n each xs)

-- ---- the text by which something is told

pub same : (xs : List ℕ) → same_text xs xs ≡ true
same xs = (bytes_eq-Decides xs xs).1 refl

pub told_as-told : {X : Type 0} (tell : X → List ℕ) (x : X) → told_as tell (tell x) x ≡ Ok x
told_as-told tell x = rw (same (tell x))

-- what is read of a body, where its value is told so that it reads back
pub read_body : {X : Type 0} (read_row : Data → Result X LineFault) (keep : X → Result X LineFault) (d : Data) → IsTold 9 d → (x : X) → read_row d ≡ Ok x
    → (row_in (compact_text d) >>= (λ (row : Data). read_row row >>= keep)) ≡ keep x
read_body {X = X} read_row keep d told x is =
    ap (λ (r : Result Data LineFault). r >>= (λ (row : Data). read_row row >>= keep)) (ap (λ (o : Option Data). ok_or o NotALine) (read-compact_text 9 d told (omega arith)))
    ∙ ap (λ (r : Result X LineFault). r >>= keep) is

-- ---- what is read has just one text

only_told : {X : Type 0} (tell : X → List ℕ) (body : List ℕ) (x : X) (b : Bool) → same_text (tell x) body ≡ b → (y : X)
    → cond b (Ok x) (Err NotALine) ≡ Ok y → body ≡ tell y
only_told tell body x false e y is = absurd (cc)
only_told tell body x true e y is =
    let one : x ≡ y = cc in
    sym ((bytes_eq-Decides (tell x) body).0 e) ∙ ap tell one

-- a body that is read is just the text of what it is read as
pub told_as-only : {X : Type 0} (tell : X → List ℕ) (body : List ℕ) (row : Result Data LineFault) (read_row : Data → Result X LineFault) (y : X)
    → (row >>= (λ (d : Data). read_row d >>= told_as tell body)) ≡ Ok y → body ≡ tell y
told_as-only {X = X} tell body (Err fault) read_row y is = absurd (cc)
told_as-only {X = X} tell body (Ok d) read_row y is = inner (read_row d) is
  where
    inner : (r : Result X LineFault) → (r >>= told_as tell body) ≡ Ok y → body ≡ tell y
    inner (Err fault) e = absurd (cc)
    inner (Ok x) e = only_told tell body x (same_text (tell x) body) refl y e
