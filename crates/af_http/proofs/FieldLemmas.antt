-- Values of fields, one field at a time.
use Rattle.std.proofs.Common.{◌≡◌, ◌≢◌, zero, suc, drop, ◌==◌, ◌||◌, ℕ, ◌+◌, ◌<◌, Bool, true, false, cond, List, [], ◌∷◌, ◌++◌, map, length, get_or, take, subst, refl, sym, ap, ◌∙◌, arith}
use Rattle.std.proofs.lemmas.Bool.{eq-eqb, ne_eqb}
use Rattle.std.proofs.lemmas.List.{append-nil, append_assoc, take_more, map-append}
use Rattle.httparse.specs.declared.spans.HeaderSpan.{HeaderSpan}
use Rattle.httparse.specs.Spans.{header_bytes, span_bytes}
use Rattle.af_http.specs.declared.fields.Named.{Named}
use Rattle.af_http.specs.Fields.{Header, values_named, same_text, IsNamed, members_of, lists}
use Rattle.httparse.specs.Grammar.{trim_ows}
use Rattle.std.specs.List.{list_any, onto_first}
use Rattle.std.proofs.lemmas.List.Splits.{slice_split-cons_yes, slice_split-cons_no}

pub values_push : (name : List ℕ) (hs : List Header) (h : Header) → values_named name (hs ++ h ∷ []) ≡ values_named name hs ++ cond (same_text h.0 name) (h.1 ∷ []) []
values_push name [] h = append-nil _
values_push name (x ∷ hs) h = ap (λ t. cond (same_text x.0 name) (x.1 ∷ []) [] ++ t) (values_push name hs h) ∙ sym (append_assoc (cond (same_text x.0 name) (x.1 ∷ []) []) _ _)

pub named_yes : (name : List ℕ) (hs : List Header) (h : Header) → same_text h.0 name ≡ true → values_named name (hs ++ h ∷ []) ≡ values_named name hs ++ h.1 ∷ []
named_yes name hs h e = values_push name hs h ∙ ap (λ t. values_named name hs ++ cond t (h.1 ∷ []) []) e

pub named_no : (name : List ℕ) (hs : List Header) (h : Header) → same_text h.0 name ≡ false → values_named name (hs ++ h ∷ []) ≡ values_named name hs
named_no name hs h e = values_push name hs h ∙ ap (λ t. values_named name hs ++ cond t (h.1 ∷ []) []) e ∙ append-nil _

more_fields : (buf : List ℕ) (hs : List HeaderSpan) (i : ℕ) (d : HeaderSpan) → i < length hs
    → map (header_bytes buf) (take (i + 1) hs) ≡ map (header_bytes buf) (take i hs) ++ header_bytes buf (get_or hs i d) ∷ []
more_fields buf hs i d within = ap (map (header_bytes buf)) (take_more hs i d within) ∙ map-append (header_bytes buf) (take i hs) _

-- the field at i has the name
pub named_taken : (buf : List ℕ) (hs : List HeaderSpan) (name : List ℕ) (i : ℕ) (d : HeaderSpan) (old new : Named) → i < length hs
    → same_text (span_bytes buf (get_or hs i d).name) name ≡ true → IsNamed (values_named name (map (header_bytes buf) (take i hs))) old
    → ((before : List (List ℕ)) → IsNamed before old → IsNamed (before ++ span_bytes buf (get_or hs i d).value ∷ []) new)
    → IsNamed (values_named name (map (header_bytes buf) (take (i + 1) hs))) new
named_taken buf hs name i d old new within same was step =
    let P : List (List ℕ) → Type 0 = λ vs. IsNamed vs new in
    subst P (sym (ap (values_named name) (more_fields buf hs i d within) ∙ named_yes name _ (header_bytes buf (get_or hs i d)) same)) (step _ was)

-- it has another
pub named_passed : (buf : List ℕ) (hs : List HeaderSpan) (name : List ℕ) (i : ℕ) (d : HeaderSpan) (old : Named) → i < length hs
    → same_text (span_bytes buf (get_or hs i d).name) name ≡ false → IsNamed (values_named name (map (header_bytes buf) (take i hs))) old
    → IsNamed (values_named name (map (header_bytes buf) (take (i + 1) hs))) old
named_passed buf hs name i d old within other was =
    let P : List (List ℕ) → Type 0 = λ vs. IsNamed vs old in
    subst P (sym (ap (values_named name) (more_fields buf hs i d within) ∙ named_no name _ (header_bytes buf (get_or hs i d)) other)) was

-- the first part ends at the first comma
part_at : (xs : List ℕ) (n : ℕ) → n < length xs → ((k : ℕ) → k < n → get_or xs k 0 ≢ 44) → get_or xs n 0 ≡ 44 → members_of xs ≡ take n xs ∷ members_of (drop (suc n) xs)
part_at [] n within none here = absurd (omega arith)
part_at (b ∷ bs) zero within none here = slice_split-cons_yes (λ b. b == 44) b bs (eq-eqb b 44 here)
part_at (b ∷ bs) (suc n) within none here =
    slice_split-cons_no (λ b. b == 44) b bs (ne_eqb b 44 (none 0 (omega arith)))
    ∙ ap (onto_first b) (part_at bs n (omega arith) (λ k h. none (suc k) (omega arith)) here)

-- a text without a comma is one part
part_whole : (xs : List ℕ) → ((k : ℕ) → k < length xs → get_or xs k 0 ≢ 44) → members_of xs ≡ xs ∷ []
part_whole [] none = refl
part_whole (b ∷ bs) none =
    slice_split-cons_no (λ b. b == 44) b bs (ne_eqb b 44 (none 0 (omega arith)))
    ∙ ap (onto_first b) (part_whole bs (λ k h. none (suc k) (omega arith)))

pub lists_at : (option xs : List ℕ) (n : ℕ) → n < length xs → ((k : ℕ) → k < n → get_or xs k 0 ≢ 44) → get_or xs n 0 ≡ 44
    → lists option xs ≡ (same_text (trim_ows (take n xs)) option || lists option (drop (suc n) xs))
lists_at option xs n within none here = ap (list_any (λ member. same_text (trim_ows member) option)) (part_at xs n within none here)

pub lists_whole : (option xs : List ℕ) → ((k : ℕ) → k < length xs → get_or xs k 0 ≢ 44) → lists option xs ≡ same_text (trim_ows xs) option
lists_whole option xs none =
    ap (list_any (λ member. same_text (trim_ows member) option)) (part_whole xs none) ∙ or_false (same_text (trim_ows xs) option)
  where
    or_false : (b : Bool) → (b || false) ≡ b
    or_false true = refl
    or_false false = refl

pub or_step : (a b c d e : Bool) → (a || d) ≡ e → d ≡ (b || c) → ((a || b) || c) ≡ e
or_step true b c d e was same = was
or_step false b c d e was same = sym same ∙ was
