-- Lines and the places of line feeds.
use Rattle.std.proofs.Common.{◌≡◌, ◌≢◌, ℕ, zero, suc, ◌||◌, ◌+◌, ◌==◌, ◌<◌, ◌≤◌, Bool, true, false, cond, nat_lt, List, [], ◌∷◌, ◌++◌, length, get_or, take, drop, refl, sym, ap, ◌∙◌, arith, Option, Some, None, ◌⊎◌, inl, inr}
use Rattle.std.specs.Option.{option_map}
use Rattle.std.specs.List.{list_any}
use Rattle.std.proofs.lemmas.Bool.{eq-eqb, ne_eqb, or_parts, both_ways, lt-ltb, le-ltb, ltb-false}
use Rattle.std.proofs.lemmas.Option.{none-some}
use Rattle.std.proofs.lemmas.List.{length-take-le, take_at, drop_at, append-nil, append_assoc, take-append-drop, length-append, length_push}
use Rattle.af_http.specs.Limits.{head_limit, field_limit}
use Rattle.af_http.specs.Lines.{lines_of, onto, text_of, is_blank, begins_blank, after_blanks, HasNoLine}
use Rattle.af_http.specs.Fronts.{Front, front_of, fronted, fronted_by, split_head, finished, unfinished, ahead, is_large, large, whole, part}
use Rattle.af_http.specs.Extents.{IsExtent, open_front, sized}
use Rattle.af_http.specs.Scans.{Passed}
use Rattle.af_http.specs.declared.extent.Extent.TheVariants.{Large, Whole}

-- the first line ends at the first line feed
pub first_line : (bytes : List ℕ) (n : ℕ) → n < length bytes → ((k : ℕ) → k < n → get_or bytes k 0 ≢ 10) → get_or bytes n 0 ≡ 10 → (tail : List ℕ)
    → lines_of (bytes ++ tail) ≡ take (suc n) bytes ∷ lines_of (drop (suc n) bytes ++ tail)
first_line [] n within none here tail = absurd (omega arith)
first_line (b ∷ bytes) zero within none here tail =
    ap (λ t. cond t ((b ∷ []) ∷ lines_of (bytes ++ tail)) (onto b (lines_of (bytes ++ tail)))) (eq-eqb b 10 here)
first_line (b ∷ bytes) (suc n) within none here tail =
    ap (λ t. cond t ((b ∷ []) ∷ lines_of (bytes ++ tail)) (onto b (lines_of (bytes ++ tail)))) (ne_eqb b 10 (none 0 (omega arith)))
    ∙ ap (onto b) (first_line bytes n (omega arith) (λ k h. none (suc k) (omega arith)) here tail)

-- the lines of a text are its bytes
onto-text : (b : ℕ) (lines : List (List ℕ)) → text_of (onto b lines) ≡ b ∷ text_of lines
onto-text b [] = refl
onto-text b (line ∷ lines) = refl

pub text_of-lines : (bytes : List ℕ) → text_of (lines_of bytes) ≡ bytes
text_of-lines [] = refl
text_of-lines (b ∷ bytes) = by (b == 10) (text_of-lines bytes)
  where
    by : (t : Bool) → text_of (lines_of bytes) ≡ bytes → text_of (cond t ((b ∷ []) ∷ lines_of bytes) (onto b (lines_of bytes))) ≡ b ∷ bytes
    by true e = ap (λ t. b ∷ t) e
    by false e = onto-text b (lines_of bytes) ∙ ap (λ t. b ∷ t) e

-- a text without a line feed is one line, or none
no_line : (b : ℕ) (bytes : List ℕ) → HasNoLine (b ∷ bytes) → lines_of (b ∷ bytes) ≡ (b ∷ bytes) ∷ []
no_line b [] none = ap (λ t. cond t ((b ∷ []) ∷ []) (onto b [])) (ne_eqb b 10 (none 0 (omega arith)))
no_line b (c ∷ bytes) none =
    ap (λ t. cond t ((b ∷ []) ∷ lines_of (c ∷ bytes)) (onto b (lines_of (c ∷ bytes)))) (ne_eqb b 10 (none 0 (omega arith)))
    ∙ ap (onto b) (no_line c bytes (λ k h. none (suc k) (omega arith)))

-- a line that holds a line feed nowhere isn't an empty one
not_blank : (b : ℕ) (bytes : List ℕ) → HasNoLine (b ∷ bytes) → is_blank (b ∷ bytes) ≡ false
not_blank b [] none = ne_eqb b 10 (none 0 (omega arith))
not_blank b (c ∷ []) none = ap (λ t. cond (b == 13) t false) (ne_eqb c 10 (none 1 (omega arith))) ∙ same (b == 13)
  where
    same : (t : Bool) → cond t false false ≡ false
    same true = refl
    same false = refl
not_blank b (c ∷ d ∷ bytes) none = refl

none-split : (bytes : List ℕ) → HasNoLine bytes → split_head (lines_of bytes) ≡ None
none-split [] none = refl
none-split (b ∷ bytes) none =
    ap split_head (no_line b bytes none)
    ∙ ap (λ t. cond t (Some ((b ∷ bytes) ∷ [], [])) (option_map (ahead ((b ∷ bytes) ∷ [])) None)) (not_blank b bytes none)

or_from_false : (x y : Bool) → x ≡ false → y ≡ false → (x || y) ≡ false
or_from_false x y a b = ap (λ t. t || y) a ∙ b

text_of-push : (front : List (List ℕ)) (line : List ℕ) → text_of (front ++ line ∷ []) ≡ text_of front ++ line
text_of-push [] line = append-nil line
text_of-push (l ∷ front) line = ap (λ t. l ++ t) (text_of-push front line) ∙ sym (append_assoc l (text_of front) line)

list_any-push : (front : List (List ℕ)) (line : List ℕ) → list_any is_blank front ≡ false → is_blank line ≡ false → list_any is_blank (front ++ line ∷ []) ≡ false
list_any-push [] line plain here = or_from_false _ _ here refl
list_any-push (l ∷ front) line plain here =
    let p = or_parts (is_blank l) (list_any is_blank front) plain in
    or_from_false _ _ p.0 (list_any-push front line p.1 here)

-- one line more
pub passed_more : (bytes rest : List ℕ) (at count n : ℕ) → Passed bytes rest at count → 0 < n → n ≤ length rest → is_blank (take n rest) ≡ false
    → ((tail : List ℕ) → lines_of (rest ++ tail) ≡ take n rest ∷ lines_of (drop n rest ++ tail)) → Passed bytes (drop n rest) (at + n) (count + 1)
passed_more bytes rest at count n p some fits here line =
    let text = text_of-push p.front (take n rest) in
    let size : length (text_of (p.front ++ take n rest ∷ [])) ≡ at + n =
    ap length text ∙ length-append (text_of p.front) (take n rest) ∙ ap (λ k. k + length (take n rest)) (sym p.at_is) ∙ ap (λ k. at + k) (length-take-le n rest fits) in
    record {
      front = p.front ++ take n rest ∷ [];
      few = let k = p.few in omega (arith, k, some);
      counted = ap (λ k. k + 1) p.counted ∙ sym (length_push p.front (take n rest));
      plain = list_any-push p.front _ p.plain here;
      joined = p.joined ∙ ap (λ t. text_of p.front ++ t) (sym (take-append-drop n rest)) ∙ sym (append_assoc (text_of p.front) (take n rest) (drop n rest)) ∙ ap (λ t. t ++ drop n rest) (sym text);
      at_is = sym size;
      lines = λ tail. p.lines tail ∙ ap (λ t. p.front ++ t) (line tail) ∙ sym (append_assoc p.front (take n rest ∷ []) _);
    }

-- lines that aren't empty go onto the head
abbrev Parts : Type 0
Parts = List (List ℕ) × List (List ℕ)

ahead_none : (o : Option Parts) → option_map {T = Parts} {U = Parts} (ahead []) o ≡ o
ahead_none None = refl
ahead_none (Some s) = refl

ahead_twice : (l : List ℕ) (front : List (List ℕ)) (o : Option Parts) → option_map (ahead (l ∷ [])) (option_map (ahead front) o) ≡ option_map (ahead (l ∷ front)) o
ahead_twice l front None = refl
ahead_twice l front (Some s) = refl

split-front : (front lines : List (List ℕ)) → list_any is_blank front ≡ false → split_head (front ++ lines) ≡ option_map (ahead front) (split_head lines)
split-front [] lines plain = sym (ahead_none (split_head lines))
split-front (l ∷ front) lines plain =
    let p = or_parts (is_blank l) (list_any is_blank front) plain in
    ap (λ t. cond t (Some (l ∷ [], front ++ lines)) (option_map (ahead (l ∷ [])) (split_head (front ++ lines)))) p.0
    ∙ ap (option_map (ahead (l ∷ []))) (split-front front lines p.1)
    ∙ ahead_twice l front (split_head lines)

-- a text that begins with no empty line keeps its lines
kept_lines : (lines : List (List ℕ)) → begins_blank lines ≡ false → after_blanks lines ≡ lines
kept_lines [] plain = refl
kept_lines (l ∷ lines) plain = ap (λ t. cond t (after_blanks lines) (l ∷ lines)) plain

-- a text whose first line is whole begins so, whatever follows
begins_there : (bytes rest : List ℕ) (front : List (List ℕ)) (n : ℕ) → ((tail : List ℕ) → lines_of (bytes ++ tail) ≡ front ++ lines_of (rest ++ tail))
    → is_blank (take n rest) ≡ true → ((tail : List ℕ) → lines_of (rest ++ tail) ≡ take n rest ∷ lines_of (drop n rest ++ tail))
    → begins_blank (lines_of bytes) ≡ false → (tail : List ℕ) → begins_blank (lines_of (bytes ++ tail)) ≡ false
begins_there bytes rest [] n lines here line begins tail =
    let yes : begins_blank (lines_of bytes) ≡ true =
    ap (λ t. begins_blank (lines_of t)) (sym (append-nil bytes)) ∙ ap begins_blank (lines [] ∙ line []) ∙ here in
    absurd (both_ways (begins_blank (lines_of bytes)) begins yes)
begins_there bytes rest (f ∷ front) n lines here line begins tail =
    ap begins_blank (lines tail) ∙ sym (ap (λ t. begins_blank (lines_of t)) (sym (append-nil bytes)) ∙ ap begins_blank (lines [])) ∙ begins

some_lines : (b : ℕ) (bytes : List ℕ) → 0 < length (lines_of (b ∷ bytes))
some_lines b bytes = by (b == 10) (lines_of bytes)
  where
    by : (t : Bool) (lines : List (List ℕ)) → 0 < length (cond t ((b ∷ []) ∷ lines) (onto b lines))
    by true lines = omega arith
    by false [] = omega arith
    by false (l ∷ lines) = omega arith

fronted-some : (lines : List (List ℕ)) (a b : List (List ℕ)) → split_head lines ≡ Some (a, b) → fronted lines ≡ finished a b
fronted-some [] a b e = absurd (none-some _ e)
fronted-some (l ∷ lines) a b e = ap (fronted_by (l ∷ lines)) e

fronted-none : (lines : List (List ℕ)) → split_head lines ≡ None → 0 < length lines → fronted lines ≡ unfinished (length (text_of lines))
fronted-none [] e some = absurd (omega arith)
fronted-none (l ∷ lines) e some = ap (fronted_by (l ∷ lines)) e

-- the head ends after so many bytes
pub record EndsAt (bytes : List ℕ) (at count : ℕ) (rest : List ℕ) : Type 0 where
  pub head : List (List ℕ)
  pub counted : length head ≡ count
  pub text : text_of head ≡ take at bytes
  pub size : length (text_of head) ≡ at
  pub within : at ≤ length bytes
  pub rest_is : rest ≡ drop at bytes
  pub front_is : (tail : List ℕ) → front_of (bytes ++ tail) ≡ finished head (lines_of (rest ++ tail))

-- the line that comes is the empty one
pub found_end : (bytes rest : List ℕ) (at count n : ℕ) → Passed bytes rest at count → n ≤ length rest → is_blank (take n rest) ≡ true
    → ((tail : List ℕ) → lines_of (rest ++ tail) ≡ take n rest ∷ lines_of (drop n rest ++ tail)) → begins_blank (lines_of bytes) ≡ false
    → EndsAt bytes (at + n) (count + 1) (drop n rest)
found_end bytes rest at count n p fits here line begins =
    let head = p.front ++ take n rest ∷ [] in
    let text = text_of-push p.front (take n rest) in
    let joined : bytes ≡ text_of head ++ drop n rest =
    p.joined ∙ ap (λ t. text_of p.front ++ t) (sym (take-append-drop n rest)) ∙ sym (append_assoc (text_of p.front) (take n rest) (drop n rest)) ∙ ap (λ t. t ++ drop n rest) (sym text) in
    let size : length (text_of head) ≡ at + n =
    ap length text ∙ length-append (text_of p.front) (take n rest) ∙ ap (λ k. k + length (take n rest)) (sym p.at_is) ∙ ap (λ k. at + k) (length-take-le n rest fits) in
    record {
      head = head;
      counted = length_push p.front (take n rest) ∙ ap (λ k. k + 1) (sym p.counted);
      text = sym (ap (take (at + n)) joined ∙ take_at (text_of head) (drop n rest) (at + n) size);
      size = size;
      within = omega (arith, size, ap length joined ∙ length-append (text_of head) (drop n rest));
      rest_is = sym (ap (drop (at + n)) joined ∙ drop_at (text_of head) (drop n rest) (at + n) size);
      front_is = λ tail.
          let whole = lines_of (drop n rest ++ tail) in
          let split : split_head (lines_of (bytes ++ tail)) ≡ Some (head, whole) =
          ap split_head (p.lines tail) ∙ split-front p.front (lines_of (rest ++ tail)) p.plain
          ∙ ap (λ t. option_map (ahead p.front) (split_head t)) (line tail)
          ∙ ap (λ t. option_map (ahead p.front) (cond t (Some (take n rest ∷ [], whole)) (option_map (ahead (take n rest ∷ [])) (split_head whole)))) here in
          ap fronted (kept_lines (lines_of (bytes ++ tail)) (begins_there bytes rest p.front n p.lines here line begins tail))
          ∙ fronted-some (lines_of (bytes ++ tail)) head whole split;
    }

-- what is found of a head of that size
abbrev said : List (List ℕ) → Bool → List ℕ → Front
said head big rest = cond big large (whole (text_of head) (text_of (lines_of rest)))

extent_by : (bytes rest : List ℕ) (at count : ℕ) (e : EndsAt bytes at count rest) (big : Bool) → (big ≡ false → at ≤ head_limit + 1)
    → ((tail : List ℕ) → front_of (bytes ++ tail) ≡ said e.head big (rest ++ tail)) → IsExtent bytes (cond big Large (Whole at))
extent_by bytes rest at count e true low f = ap front_of (sym (append-nil bytes)) ∙ f []
extent_by bytes rest at count e false low f = (
  e.within,
  low refl,
  λ tail.
      f tail ∙ ap (λ t. whole t (text_of (lines_of (rest ++ tail)))) e.text ∙ ap (whole (take at bytes)) (text_of-lines (rest ++ tail)) ∙ ap (λ t. whole (take at bytes) (t ++ tail)) e.rest_is,
)

small : (at count : ℕ) → is_large at count ≡ false → at ≤ head_limit + 1
small at count e = ltb-false (head_limit + 1) at (or_parts (nat_lt (head_limit + 1) at) (nat_lt (field_limit + 2) count) e).0

pub extent_found : (bytes rest : List ℕ) (at count : ℕ) → EndsAt bytes at count rest → IsExtent bytes (sized at count)
extent_found bytes rest at count e =
    extent_by bytes rest at count e (is_large at count) (small at count) (λ tail.
    e.front_is tail
    ∙ ap (λ k. said e.head (is_large k (length e.head)) (rest ++ tail)) e.size
    ∙ ap (λ k. said e.head (is_large at k) (rest ++ tail)) e.counted)

-- no line ends in the rest
no_end : (bytes rest : List ℕ) (at count : ℕ) → Passed bytes rest at count → HasNoLine rest → begins_blank (lines_of bytes) ≡ false
    → (bytes ≡ []) ⊎ (front_of bytes ≡ unfinished (length bytes))
no_end [] rest at count p none begins = inl refl
no_end (b ∷ bytes) rest at count p none begins =
    let lines : lines_of (b ∷ bytes) ≡ p.front ++ lines_of rest =
    ap lines_of (sym (append-nil (b ∷ bytes))) ∙ p.lines [] ∙ ap (λ t. p.front ++ lines_of t) (append-nil rest) in
    let split : split_head (lines_of (b ∷ bytes)) ≡ None =
    ap split_head lines ∙ split-front p.front (lines_of rest) p.plain ∙ ap (option_map (ahead p.front)) (none-split rest none) in
    inr (ap fronted (kept_lines (lines_of (b ∷ bytes)) begins)
    ∙ fronted-none (lines_of (b ∷ bytes)) split (some_lines b bytes)
    ∙ ap (λ t. unfinished (length t)) (text_of-lines (b ∷ bytes)))

pub large_part : (bytes rest : List ℕ) (at count : ℕ) → Passed bytes rest at count → HasNoLine rest → begins_blank (lines_of bytes) ≡ false
    → head_limit < length bytes → front_of bytes ≡ large
large_part bytes rest at count p none begins long = elim (no_end bytes rest at count p none begins) [
  | inl e ↦ absurd (omega (arith, long, ap length e))
  | inr e ↦ e ∙ ap (λ t. cond t large part) (lt-ltb head_limit (length bytes) long)
]

pub open_part : (bytes rest : List ℕ) (at count : ℕ) → Passed bytes rest at count → HasNoLine rest → begins_blank (lines_of bytes) ≡ false
    → length bytes ≤ head_limit → front_of bytes ≡ open_front bytes
open_part bytes rest at count p none begins short = elim (no_end bytes rest at count p none begins) [
  | inl e ↦ ap front_of e ∙ ap open_front (sym e)
  | inr e ↦ by bytes (e ∙ ap (λ t. cond t large part) (le-ltb head_limit (length bytes) short))
]
  where
    by : (bytes : List ℕ) → front_of bytes ≡ part → front_of bytes ≡ open_front bytes
    by [] e = refl
    by (b ∷ bytes) e = e
