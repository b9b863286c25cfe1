-- Tokens of lists and of members that were written one after another.
use Rattle.std.proofs.Common.{◌≡◌, ◌∙◌, ◌<◌, ◌≤◌, ◌+◌, ℕ, List, [], ◌∷◌, ◌++◌, length, get_or, drop, map, refl, sym, ap, append_assoc, append-nil}
use Rattle.std.proofs.lemmas.List.{at_drop_all, at_drop_more}
use Rattle.std.specs.Borrow.{Bor}
use Rattle.json.specs.Token.{Token}
use Rattle.json.specs.Tree.{items_tokens, json_tokens, members_tokens}
use Rattle.serde_json.specs.Data.{Data}
use Rattle.serde_json.specs.View.{items_of}
use Rattle.serde_json.specs.Written.{items_outline, members_outline, outline}
use Rattle.af_store.specs.Bodies.{Field, members_from, object_of}
use Rattle.af_store.specs.Tellings.{field_of, fields_tokens, told_data}
use Rattle.af_store.specs.declared.told.Told.{Told}

module _ {T : Type 0} (told : T → Data) where
  -- the tokens of the items, and the end of their list
  abbrev pub items_left : List T → List Token
  items_left items = items_tokens (items_outline (items_of (map told items)))

  pub next_item : (items : List T) (i : ℕ) (item : T) (before : List Token) → i < length items → item ≡ get_or items i item
      → (before ++ json_tokens (outline (told item))) ++ items_left (drop (i + 1) items) ≡ before ++ items_left (drop i items)
  next_item items i item before inside is =
      append_assoc before (json_tokens (outline (told item))) (items_left (drop (i + 1) items))
      ∙ ap (λ (ts : List Token). before ++ ts)
      (ap (λ (x : T). json_tokens (outline (told x)) ++ items_left (drop (i + 1) items)) is ∙ sym (at_drop_more items_left items i item inside))

  pub no_item : (items : List T) (i : ℕ) (before : List Token) → length items ≤ i → before ++ items_left [] ≡ before ++ items_left (drop i items)
  no_item items i before past = ap (λ (ts : List Token). before ++ ts) (sym (at_drop_all items_left items i past))

-- a member of a body, as it is handed over
abbrev pub Handed : Type 0
Handed = Bor (List ℕ) × Told

-- the tokens of the members that are left
abbrev pub fields_left : List Handed → List Token
fields_left members = fields_tokens (map field_of members)

pub next_member : (members : List Handed) (i : ℕ) (it : Handed) (before : List Token) → i < length members → it ≡ get_or members i it
    → (before ++ Token.key it.0.now ∷ json_tokens (outline (told_data it.1))) ++ fields_left (drop (i + 1) members) ≡ before ++ fields_left (drop i members)
next_member members i it before inside is =
    append_assoc before (Token.key it.0.now ∷ json_tokens (outline (told_data it.1))) (fields_left (drop (i + 1) members))
    ∙ ap (λ (ts : List Token). before ++ ts)
    (ap (λ (x : Handed). Token.key x.0.now ∷ (json_tokens (outline (told_data x.1)) ++ fields_left (drop (i + 1) members))) is
    ∙ sym (at_drop_more fields_left members i it inside))

pub no_member : (members : List Handed) (i : ℕ) (before : List Token) → length members ≤ i → before ≡ before ++ fields_left (drop i members)
no_member members i before past = sym (append-nil before) ∙ ap (λ (ts : List Token). before ++ ts) (sym (at_drop_all fields_left members i past))

-- ---- members of an object

-- the tokens of an object's members, and its end
pub closed : (fields : List Field) → fields_tokens fields ++ Token.end_object ∷ [] ≡ members_tokens (members_outline (members_from fields))
closed [] = refl
closed (field ∷ fields) =
    ap (λ (ts : List Token). Token.key field.0 ∷ ts)
    (append_assoc (json_tokens (outline field.1)) (fields_tokens fields) (Token.end_object ∷ []) ∙ ap (λ (ts : List Token). json_tokens (outline field.1) ++ ts) (closed fields))

fields_tokens-append : (one more : List Field) → fields_tokens (one ++ more) ≡ fields_tokens one ++ fields_tokens more
fields_tokens-append [] more = refl
fields_tokens-append (field ∷ one) more =
    ap (λ (ts : List Token). Token.key field.0 ∷ ts)
    (ap (λ (ts : List Token). json_tokens (outline field.1) ++ ts) (fields_tokens-append one more)
    ∙ sym (append_assoc (json_tokens (outline field.1)) (fields_tokens one) (fields_tokens more)))

-- members after members
pub after : (old : List Token) {t1 t2 : List Token} (one more : List Field) → t1 ≡ old ++ fields_tokens one → t2 ≡ t1 ++ fields_tokens more → t2 ≡ old ++ fields_tokens (one ++ more)
after old one more first second =
    second ∙ ap (λ (ts : List Token). ts ++ fields_tokens more) first ∙ append_assoc old (fields_tokens one) (fields_tokens more)
    ∙ ap (λ (ts : List Token). old ++ ts) (sym (fields_tokens-append one more))

-- members in five parts
pub framed : (old : List Token) {t1 t2 t3 t4 t5 : List Token} (a b c d e : List Field) → t1 ≡ old ++ fields_tokens a → t2 ≡ t1 ++ fields_tokens b → t3 ≡ t2 ++ fields_tokens c → t4 ≡ t3 ++ fields_tokens d → t5 ≡ t4 ++ fields_tokens e
    → t5 ≡ old ++ fields_tokens (a ++ (b ++ (c ++ (d ++ e))))
framed old a b c d e first second third fourth fifth =
    after old (((a ++ b) ++ c) ++ d) e (after old ((a ++ b) ++ c) d (after old (a ++ b) c (after old a b first second) third) fourth) fifth
    ∙ ap (λ (fields : List Field). old ++ fields_tokens fields)
    (append_assoc ((a ++ b) ++ c) d e ∙ append_assoc (a ++ b) c (d ++ e) ∙ append_assoc a b (c ++ (d ++ e)))

-- the members of an object, written from its beginning to its end
pub object_written : {t0 t1 t2 t3 : List Token} (fields : List Field) → t0 ≡ [] → t1 ≡ t0 ++ Token.begin_object ∷ [] → t2 ≡ t1 ++ fields_tokens fields → t3 ≡ t2 ++ Token.end_object ∷ []
    → t3 ≡ json_tokens (outline (object_of fields))
object_written fields none begun told ended =
    ended ∙ ap (λ (ts : List Token). ts ++ Token.end_object ∷ []) (told ∙ ap (λ (ts : List Token). ts ++ fields_tokens fields) (begun ∙ ap (λ (ts : List Token). ts ++ Token.begin_object ∷ []) none))
    ∙ ap (λ (ts : List Token). Token.begin_object ∷ ts) (closed fields)

-- ---- tokens that were written one after another

module _ (old a b c d : List Token) {t1 t2 t3 t4 : List Token} (first : t1 ≡ old ++ a) (second : t2 ≡ t1 ++ b) (third : t3 ≡ t2 ++ c) (fourth : t4 ≡ t3 ++ d) where
  pub four : t4 ≡ old ++ (a ++ (b ++ (c ++ d)))
  four =
      fourth ∙ ap (λ (ts : List Token). ts ++ d) (third ∙ ap (λ (ts : List Token). ts ++ c) (second ∙ ap (λ (ts : List Token). ts ++ b) first))
      ∙ append_assoc ((old ++ a) ++ b) c d ∙ append_assoc (old ++ a) b (c ++ d) ∙ append_assoc old a (b ++ (c ++ d))

  pub five : (e : List Token) {t5 : List Token} → t5 ≡ t4 ++ e → t5 ≡ old ++ (a ++ (b ++ (c ++ (d ++ e))))
  five e fifth =
      fifth ∙ ap (λ (ts : List Token). ts ++ e) four
      ∙ append_assoc old (a ++ (b ++ (c ++ d))) e
      ∙ ap (λ (ts : List Token). old ++ ts)
      (append_assoc a (b ++ (c ++ d)) e ∙ ap (λ (ts : List Token). a ++ ts)
      (append_assoc b (c ++ d) e ∙ ap (λ (ts : List Token). b ++ ts) (append_assoc c d e)))
