-- Facts on what is left of a row, and on one step of taking places.
use Rattle.std.proofs.Common.{◌≡◌, ◌<◌, ◌+◌, ℕ, Bool, true, false, eqb, ltb, leb, not, ◌&&◌, ◌||◌, cond, List, [], ◌∷◌, ◌++◌, length, get_or, take, sym, refl, ap, ◌∙◌, subst, ⊎_elim, arith, zero, suc}
use Rattle.std.specs.Prelude.{All}
use Rattle.std.specs.List.{filter, list_all, range_with_len}
use Rattle.std.proofs.lemmas.Bool.{cases_Bool, cases_eq, eq-eqb, ne_eqb, and_right, or_left, or_right, or_from, cond_both, not_from_true, not_from_false, false≢true}
use Rattle.std.proofs.lemmas.Bool.Decides.{nat_tests}
use Rattle.std.proofs.lemmas.List.Folds.{list_any_at}
use Rattle.std.proofs.lemmas.List.Elements.{All-nil, All-cons}
use Rattle.af_graph.specs.Rows.{row_at, is_among}
use Rattle.af_graph.specs.Order.{is_free}
use Rattle.af_graph.specs.Steps.{left_of}
use Rattle.af_graph.proofs.RowLemmas.{among-filter, among-range, among-push}

or_none : (b : Bool) → (b || false) ≡ b
or_none true = refl
or_none false = refl

and_true : (b : Bool) → (b && true) ≡ b
and_true true = refl
and_true false = refl

-- what holds of each number among a list
pub all_from_among : (P : ℕ → Type 0) (xs : List ℕ) → ((q : ℕ) → is_among xs q ≡ true → P q) → All P xs
all_from_among P [] each = All-nil P
all_from_among P (x ∷ xs) each =
    All-cons P x xs (each x (or_left (eqb x x) (is_among xs x) (eq-eqb x x refl))) (all_from_among P xs (λ q e. each q (or_right (eqb x q) (is_among xs q) e)))

-- a row of a range has no place below it
none_below : (f : ℕ → Bool) (a n q : ℕ) → q < a → is_among (filter f (range_with_len a n)) q ≡ false
none_below f a n q below =
    among-filter f (range_with_len a n) q
    ∙ and_right (f q) (is_among (range_with_len a n) q) (among-range a n q ∙ ap (λ b. b && ltb q (a + n)) (lt_leb a q below))
  where
    lt_leb : (a q : ℕ) → q < a → leb a q ≡ false
    lt_leb a q below = grind (arith, nat_tests)

once_cons : (a : ℕ) (rest : List ℕ) → is_among rest a ≡ false → ((k : ℕ) → k < length rest → is_among (take k rest) (get_or rest k 0) ≡ false) → (k : ℕ) → k < length (a ∷ rest) → is_among (take k (a ∷ rest)) (get_or (a ∷ rest) k 0) ≡ false
once_cons a rest fresh each zero inside = refl
once_cons a rest fresh each (suc k) inside =
    let here : k < length rest = omega arith in
    let x : ℕ = get_or rest k 0 in
    let among : is_among rest x ≡ true = list_any_at (λ other. eqb other x) rest k 0 here (eq-eqb x x refl) in
    or_from (eqb a x) (is_among (take k rest) x) (ne_eqb a x (λ e. false≢true (sym fresh ∙ subst (λ y. is_among rest y ≡ true) (sym e) among))) (each k here)

-- a row of a range has each place once
pub row_once : (f : ℕ → Bool) (a n k : ℕ) → k < length (filter f (range_with_len a n)) → is_among (take k (filter f (range_with_len a n))) (get_or (filter f (range_with_len a n)) k 0) ≡ false
row_once f a zero k inside = absurd (omega arith)
row_once f a (suc n) k inside =
    let rest : List ℕ = filter f (range_with_len (a + 1) n) in
    let P : List ℕ → Type 0 = λ row. k < length row → is_among (take k row) (get_or row k 0) ≡ false in
    cond_both (f a) (a ∷ rest) rest P (λ _. once_cons a rest (none_below f (a + 1) n a (omega arith)) (λ j h. row_once f (a + 1) n j h) k) (λ _. row_once f (a + 1) n k) inside

less_cons : (p r : ℕ → Bool) (t : ℕ) → ((u : ℕ) → (u ≡ t → ⊥) → p u ≡ r u) → p t ≡ true → r t ≡ false → (a : ℕ) (rest : List ℕ) → (a ≡ t → is_among rest t ≡ false) → length (filter r rest) + cond (is_among rest t) 1 0 ≡ length (filter p rest) → length (filter r (a ∷ rest)) + cond (is_among (a ∷ rest) t) 1 0 ≡ length (filter p (a ∷ rest))
less_cons p r t other before after a rest fresh sofar =
    ⊎_elim
    (λ (e : a ≡ t). let pa : p a ≡ true = subst (λ u. p u ≡ true) (sym e) before in let ra : r a ≡ false = subst (λ u. r u ≡ false) (sym e) after in let at : eqb a t ≡ true = eq-eqb a t e in let none : is_among rest t ≡ false = fresh e in let rest_is : length (filter r rest) + 0 ≡ length (filter p rest) = ap (λ b. length (filter r rest) + cond b 1 0) (sym none) ∙ sofar in rw (ra, pa, at) (omega (arith, rest_is)))
    (λ (ne : a ≡ t → ⊥). let at : eqb a t ≡ false = ne_eqb a t ne in ⊎_elim (λ (ra : r a ≡ true). let pa : p a ≡ true = other a ne ∙ ra in rw (ra, pa, at) (omega (arith, sofar))) (λ (ra : r a ≡ false). let pa : p a ≡ false = other a ne ∙ ra in rw (ra, pa, at) sofar) (cases_Bool (r a)))
    (cases_eq a t)

-- what is left of a row when one place more is taken
filter_less : (f p r : ℕ → Bool) (t : ℕ) → ((u : ℕ) → (u ≡ t → ⊥) → p u ≡ r u) → p t ≡ true → r t ≡ false → (a n : ℕ) → length (filter r (filter f (range_with_len a n))) + cond (is_among (filter f (range_with_len a n)) t) 1 0 ≡ length (filter p (filter f (range_with_len a n)))
filter_less f p r t other before after a zero = refl
filter_less f p r t other before after a (suc n) =
    let rest : List ℕ = filter f (range_with_len (a + 1) n) in
    let P : List ℕ → Type 0 = λ row. length (filter r row) + cond (is_among row t) 1 0 ≡ length (filter p row) in
    let sofar : P rest = filter_less f p r t other before after (a + 1) n in
    cond_both (f a) (a ∷ rest) rest P (λ _. less_cons p r t other before after a rest (λ e. none_below f (a + 1) n t (omega arith)) sofar) (λ _. sofar)

pub left_less : (taken : List ℕ) (t : ℕ) (f : ℕ → Bool) (n : ℕ) (row : List ℕ) → row ≡ filter f (range_with_len 0 n) → is_among taken t ≡ false → left_of (taken ++ t ∷ []) row + cond (is_among row t) 1 0 ≡ left_of taken row
left_less taken t f n row is fresh =
    let other : (u : ℕ) → (u ≡ t → ⊥) → not (is_among taken u) ≡ not (is_among (taken ++ t ∷ []) u) =
    λ u ne. ap not (sym (among-push taken t u ∙ ap (λ b. is_among taken u || b) (ne_eqb t u (λ e. ne (sym e))) ∙ or_none (is_among taken u))) in
    let after : not (is_among (taken ++ t ∷ []) t) ≡ false =
    not_from_true (is_among (taken ++ t ∷ []) t) (among-push taken t t ∙ or_right (is_among taken t) (eqb t t) (eq-eqb t t refl)) in
    subst (λ r. left_of (taken ++ t ∷ []) r + cond (is_among r t) 1 0 ≡ left_of taken r) (sym is) (filter_less f (λ u. not (is_among taken u)) (λ u. not (is_among (taken ++ t ∷ []) u)) t other (not_from_false (is_among taken t) fresh) after 0 n)

all_step : (b rest_all : Bool) (x : ℕ) (rest : List ℕ) → rest_all ≡ eqb (length rest) 0 → (b && rest_all) ≡ eqb (length (cond (not b) (x ∷ rest) rest)) 0
all_step true rest_all x rest h = h
all_step false rest_all x rest h = sym (ne_eqb (suc (length rest)) 0 (λ e. absurd (omega arith)))

-- each place of a row is taken where none is left
all_taken : (taken row : List ℕ) → list_all (is_among taken) row ≡ eqb (left_of taken row) 0
all_taken taken [] = refl
all_taken taken (x ∷ row) =
    all_step (is_among taken x) (list_all (is_among taken) row) x (filter (λ place. not (is_among taken place)) row) (all_taken taken row)

pub free_is : (rows : List (List ℕ)) (taken : List ℕ) (q : ℕ) → is_free rows taken q ≡ (not (is_among taken q) && eqb (left_of taken (row_at rows q)) 0)
free_is rows taken q = ap (λ b. not (is_among taken q) && b) (all_taken taken (row_at rows q))

-- whether a place is ready after a step: below the end, taken before, below the place taken, that place itself
pub ready_step : (below taken up same : Bool) (before after : ℕ) → (below ≡ true → after + cond up 1 0 ≡ before) → (below ≡ true → taken ≡ true → before ≡ 0) → (same ≡ true → (taken ≡ false) × (before ≡ 0)) → (((below && (not taken && eqb before 0)) && not same) || ((below && up) && eqb after 0)) ≡ (below && (not (taken || same) && eqb after 0))
ready_step false taken up same before after fewer closed chosen = refl
ready_step true true true same before after fewer closed chosen =
    let less : after + 1 ≡ before = fewer refl in
    let none : before ≡ 0 = closed refl refl in
    absurd (omega arith)
ready_step true true false same before after fewer closed chosen = refl
ready_step true false true true before after fewer closed chosen =
    let less : after + 1 ≡ before = fewer refl in
    let none : before ≡ 0 = (chosen refl).1 in
    absurd (omega arith)
ready_step true false true false before after fewer closed chosen =
    let less : after + 1 ≡ before = fewer refl in
    let some : eqb before 0 ≡ false = ne_eqb before 0 (λ e. absurd (omega arith)) in
    rw some refl
ready_step true false false true before after fewer closed chosen =
    or_from (eqb before 0 && false) false (and_right (eqb before 0) false refl) refl
ready_step true false false false before after fewer closed chosen =
    let same : after + 0 ≡ before = fewer refl in
    let equal : before ≡ after = omega arith in
    or_none (eqb before 0 && true) ∙ and_true (eqb before 0) ∙ ap (λ w. eqb w 0) equal
