-- A member's bytes are the text of the member, and a row's members with their braces the text of the row.
use Rattle.std.proofs.Common.{map, subst, ℤ, ◌<◌, inl, inr, pos, negsuc, ◌≡◌, ◌≤◌, ℕ, Bool, true, false, cond, List, [], ◌∷◌, ◌++◌, refl, sym, ◌∙◌, ap, append_assoc, length, nat_le, ◌||◌, ◌==◌}
use Rattle.std.specs.List.{list_all}
use Rattle.std.proofs.lemmas.Bool.{and_parts, or_parts, not-true, ne_eqb, le-ltb, false≢true, eqb-false, ltb-false, cases_lt, agree_below_at}
use Rattle.std.proofs.lemmas.List.{append-nil}
use Rattle.std.specs.Fmt.{signed_decimal}
use Rattle.af_names.specs.Names.{is_id_byte, is_run_byte}
use Rattle.json.specs.Run.{is_plain}
use Rattle.json.specs.Print.{escape, quoted}
use Rattle.json.proofs.Printed.Strings.{escape_byte_plain}
use Rattle.serde_json.specs.Data.{Data, array, string}
use Rattle.serde_json.specs.View.{items_of}
use Rattle.serde_json.specs.Written.{comma_if, compact_text, members_text, number_text}
use Rattle.serde_json.specs.Find.{of_integer}
use Rattle.af_ops.specs.Fields.{Field, members_from, object_of}
use Rattle.af_ops.specs.Texts.{Filling, Adds, front, is_name, member_text}
use Rattle.af_ops.proofs.PageLemmas.{map_now}

-- a text with no byte that wants an escape stands as it is
pub plain_is : (s : List ℕ) → list_all is_plain s ≡ true → escape s ≡ s
plain_is [] all = refl
plain_is (x ∷ s) all =
    let both = and_parts (is_plain x) (list_all is_plain s) all in
    let none = or_parts ((x == 34) || (x == 92)) _ (not-true _ both.0) in
    let tests = or_parts (x == 34) _ none.0 in
    rw (escape_byte_plain x (eqb-false x 34 tests.0) (eqb-false x 92 tests.1) (ltb-false x 32 none.1)) (ap (λ rest. x ∷ rest) (plain_is s both.1))

-- a text in its quotation marks
pub quoted_put : (before s : List ℕ) → list_all is_plain s ≡ true → ((before ++ 34 ∷ []) ++ s) ++ 34 ∷ [] ≡ before ++ compact_text (string s)
quoted_put before s plain =
    append_assoc (before ++ 34 ∷ []) s (34 ∷ []) ∙ append_assoc before (34 ∷ []) (s ++ 34 ∷ [])
    ∙ ap (λ escaped. before ++ 34 ∷ (escaped ++ 34 ∷ [])) (sym (plain_is s plain))

name_plain : (name : List ℕ) → is_name name ≡ true → escape name ≡ name
name_plain name named = plain_is name (and_parts (nat_le (length name) 64) _ named).1

-- one member
pub adds_value : (later : Bool) (old new : Filling) (name value : List ℕ) (d : Data) → is_name name ≡ true → compact_text d ≡ value
    → new.items ≡ old.items ++ (cond later (44 ∷ []) [] ++ 34 ∷ (name ++ 34 ∷ 58 ∷ value)) → 8 ≤ new.ready → Adds later old new ((name, d) ∷ [])
unfolding front
adds_value later old new name value d named is items room = record {
  text =
      items
      ∙ ap (λ s. old.items ++ (comma_if later ++ 34 ∷ s))
      (ap (λ s. name ++ 34 ∷ 58 ∷ s) (sym is) ∙ ap (λ s. s ++ 34 ∷ 58 ∷ compact_text d) (sym (name_plain name named)) ∙ sym (append_assoc (escape name) (34 ∷ []) (58 ∷ compact_text d)))
      ∙ ap (λ s. old.items ++ s) (sym (append-nil (member_text later name (compact_text d))));
  room = room;
}

-- one text
pub adds_text : (later : Bool) (old new : Filling) (name value : List ℕ) → is_name name ≡ true → list_all is_plain value ≡ true
    → new.items ≡ old.items ++ (cond later (44 ∷ []) [] ++ 34 ∷ (name ++ 34 ∷ 58 ∷ 34 ∷ (value ++ 34 ∷ []))) → 8 ≤ new.ready → Adds later old new ((name, string value) ∷ [])
adds_text later old new name value named plain items room =
    adds_value later old new name (34 ∷ (value ++ 34 ∷ [])) (string value) named (ap (λ s. 34 ∷ (s ++ 34 ∷ [])) (plain_is value plain)) items room

front-append : (later : Bool) (f : Field) (fs gs : List Field) → front later ((f ∷ fs) ++ gs) ≡ front later (f ∷ fs) ++ front true gs
unfolding front
front-append later f [] gs = ap (λ s. s ++ front true gs) (sym (append-nil (member_text later f.0 (compact_text f.1))))
front-append later f (g ∷ fs) gs =
    ap (λ s. member_text later f.0 (compact_text f.1) ++ s) (front-append true g fs gs)
    ∙ sym (append_assoc (member_text later f.0 (compact_text f.1)) (front true (g ∷ fs)) (front true gs))

-- members after members
pub more : {later : Bool} {a b c : Filling} {f : Field} {fs gs : List Field} → Adds later a b (f ∷ fs) → Adds true b c gs → Adds later a c (f ∷ (fs ++ gs))
more {later = later} {a = a} {f = f} {fs = fs} {gs = gs} one next = record {
  text =
      next.text ∙ ap (λ s. s ++ front true gs) one.text ∙ append_assoc a.items (front later (f ∷ fs)) (front true gs)
      ∙ ap (λ s. a.items ++ s) (sym (front-append later f fs gs));
  room = next.room;
}

-- the members of an object, closed
closed : (later : Bool) (fs : List Field) → front later fs ++ 125 ∷ [] ≡ members_text later (members_from fs)
unfolding front
closed later [] = refl
closed later (f ∷ fs) =
    append_assoc (member_text later f.0 (compact_text f.1)) (front true fs) (125 ∷ [])
    ∙ ap (λ s. member_text later f.0 (compact_text f.1) ++ s) (closed true fs)
    ∙ append_assoc (comma_if later) (quoted f.0 ++ 58 ∷ compact_text f.1) (members_text true (members_from fs))
    ∙ ap (λ s. comma_if later ++ s) (append_assoc (quoted f.0) (58 ∷ compact_text f.1) (members_text true (members_from fs)))

-- a row in its braces
pub row_put : (before : List ℕ) (fs : List Field) → ((before ++ 123 ∷ []) ++ front false fs) ++ 125 ∷ [] ≡ before ++ compact_text (object_of fs)
row_put before fs =
    append_assoc (before ++ 123 ∷ []) (front false fs) (125 ∷ [])
    ∙ ap (λ s. (before ++ 123 ∷ []) ++ s) (closed false fs)
    ∙ append_assoc before (123 ∷ []) (members_text false (members_from fs))

-- bytes of ids
pub plain_byte : (x : ℕ) → (x ≡ 34 → ⊥) → (x ≡ 92 → ⊥) → 32 ≤ x → is_plain x ≡ true
plain_byte x quote backslash above = rw (ne_eqb x 34 quote, ne_eqb x 92 backslash, le-ltb x 32 above)

id_plain : (allowed : ℕ → Bool) → allowed 34 ≡ false → allowed 92 ≡ false → ((x : ℕ) → allowed x ≡ true → 32 ≤ x) → (s : List ℕ) → list_all allowed s ≡ true → list_all is_plain s ≡ true
id_plain allowed quote backslash above [] all = refl
id_plain allowed quote backslash above (x ∷ s) all =
    let both = and_parts (allowed x) (list_all allowed s) all in
    rw (plain_byte x (λ same. false≢true (sym quote ∙ ap allowed (sym same) ∙ both.0)) (λ same. false≢true (sym backslash ∙ ap allowed (sym same) ∙ both.0)) (above x both.0))
    (id_plain allowed quote backslash above s both.1)

no_control : (allowed : ℕ → Bool) → ((x : ℕ) → x < 32 → allowed x ≡ false) → (x : ℕ) → allowed x ≡ true → 32 ≤ x
no_control allowed none x is = elim (cases_lt x 32) [
  | inl below ↦ absurd (false≢true (sym (none x below) ∙ is))
  | inr above ↦ above
]

pub ids_are_plain : (s : List ℕ) → list_all is_id_byte s ≡ true → list_all is_plain s ≡ true
ids_are_plain = id_plain is_id_byte refl refl (no_control is_id_byte (λ x below. agree_below_at is_id_byte (λ _. false) 32 x refl below))

pub run_ids_are_plain : (s : List ℕ) → list_all is_run_byte s ≡ true → list_all is_plain s ≡ true
run_ids_are_plain = id_plain is_run_byte refl refl (no_control is_run_byte (λ x below. agree_below_at is_run_byte (λ _. false) 32 x refl below))

-- a value in two pieces
pub adds_pieces : (later : Bool) (old new : Filling) (name head rest : List ℕ) (d : Data) → is_name name ≡ true → compact_text d ≡ head ++ rest
    → new.items ≡ (old.items ++ (cond later (44 ∷ []) [] ++ 34 ∷ (name ++ 34 ∷ 58 ∷ head))) ++ rest → 8 ≤ new.ready → Adds later old new ((name, d) ∷ [])
adds_pieces later old new name head rest d named is items room =
    adds_value later old new name (head ++ rest) d named is
    (items ∙ append_assoc old.items (cond later (44 ∷ []) [] ++ 34 ∷ (name ++ 34 ∷ 58 ∷ head)) rest
    ∙ ap (λ s. old.items ++ s) (append_assoc (cond later (44 ∷ []) []) (34 ∷ (name ++ 34 ∷ 58 ∷ head)) rest
    ∙ ap (λ s. cond later (44 ∷ []) [] ++ 34 ∷ s) (append_assoc name (34 ∷ 58 ∷ head) rest)))
    room

-- an integer's digits
pub integer_is : (z : ℤ) → number_text (of_integer z) ≡ signed_decimal z
integer_is (pos n) = refl
integer_is (negsuc n) = refl

-- what is told of borrowed items is told of the items
pub told_now : {X Y : Type 0} (later : Bool) (old new : Filling) (name : List ℕ) (now : X → Y) (told : Y → Data) (borrowed : List X) (items : List Y) → map now borrowed ≡ items
    → Adds later old new ((name, array (items_of (map (λ x. told (now x)) borrowed))) ∷ []) → Adds later old new ((name, array (items_of (map told items))) ∷ [])
told_now later old new name now told borrowed items is adds =
    subst (λ (values : List Data). Adds later old new ((name, array (items_of values)) ∷ [])) (map_now now told borrowed ∙ ap (map told) is) adds
