-- The order of a graph's places: it is one, and there is no other.
use Rattle.std.proofs.Common.{◌≡◌, ◌<◌, ◌≤◌, ℕ, Bool, true, false, eqb, not, ◌⊎◌, List, [], ◌∷◌, ◌++◌, Some, None, Option, length, get_or, take, sym, refl, ap, ◌∙◌, subst, ⊎_elim, inl, inr, append-nil, add-one, ◌||◌, arith, zero, suc}
use Rattle.std.specs.Prelude.{Any, Contains}
use Rattle.std.specs.List.{find, list_any, list_all, IsDistinct}
use Rattle.std.specs.Option.{option_to_list}
use Rattle.std.proofs.lemmas.Bool.{cases_lt, cases_eq, true≢false, false≢true, eqb-true, eq-eqb, ne_eqb, and_parts, and_from, and_cases, or_cases, not-true, not_from_false, false_from_ne_true}
use Rattle.std.proofs.lemmas.List.{take-append-le, take_at, take_all, take_more_same, get_or_append_left, get_or_push, length_push}
use Rattle.std.proofs.lemmas.List.Elements.{All-weaker, All-contains}
use Rattle.std.proofs.lemmas.List.Folds.{list_any_at}
use Rattle.std.proofs.lemmas.List.Sums.{AllPass-from_list_all, list_all-from_AllPass}
use Rattle.std.proofs.lemmas.Map.Keys.{IsDistinct-push}
use Rattle.std.proofs.lemmas.Map.Steps.{length-le_from_distinct_below}
use Rattle.af_graph.specs.Rows.{places, row_at, is_among}
use Rattle.af_graph.specs.Order.{is_free, taken_in, order_of, IsFree, IsNext, IsOrder}
use Rattle.std.specs.Cmp.{nat_eq_equiv}
use Rattle.std.proofs.lemmas.Option.{none-some}
use Rattle.af_graph.proofs.PlaceLemmas.{find_some, find_nothing}
use Rattle.af_graph.proofs.RowLemmas.{among-push}
use Rattle.af_graph.proofs.WiringLemmas.{order_within}

pub among_contains : (xs : List ℕ) (q : ℕ) → is_among xs q ≡ true → Contains xs q
among_contains [] q e = absurd (false≢true e)
among_contains (x ∷ xs) q e =
    ⊎_elim
    (λ (here : eqb x q ≡ true). (zero, omega arith, eqb-true x q here))
    (λ (there : is_among xs q ≡ true). let rest = among_contains xs q there in (suc rest.0, omega (arith, rest.1), rest.2))
    (or_cases (eqb x q) (is_among xs q) e)

pub contains_among : (xs : List ℕ) (q : ℕ) → Contains xs q → is_among xs q ≡ true
contains_among xs q has = list_any_at (λ other. eqb other q) xs has.0 q has.1 (eq-eqb (get_or xs has.0 q) q has.2)

free_from_test : (rows : List (List ℕ)) (taken : List ℕ) (place : ℕ) → place < length rows → is_free rows taken place ≡ true → IsFree rows taken place
free_from_test rows taken place inside e =
    let parts = and_parts (not (is_among taken place)) (list_all (is_among taken) (row_at rows place)) e in
    record {
      here = inside;
      fresh = λ has. true≢false (sym (contains_among taken place has) ∙ not-true (is_among taken place) parts.0);
      after = All-weaker (λ u. is_among taken u ≡ true) (Contains taken) (λ u among. among_contains taken u among) (row_at rows place) (AllPass-from_list_all (is_among taken) (row_at rows place) parts.1);
    }

test_from_free : (rows : List (List ℕ)) (taken : List ℕ) (place : ℕ) → IsFree rows taken place → is_free rows taken place ≡ true
test_from_free rows taken place free =
    let fresh : is_among taken place ≡ false =
    false_from_ne_true (is_among taken place) (λ e. free.fresh (among_contains taken place e)) in
    and_from (not (is_among taken place)) (list_all (is_among taken) (row_at rows place)) (not_from_false (is_among taken place) fresh) (list_all-from_AllPass (is_among taken) (row_at rows place) (All-weaker (Contains taken) (λ u. is_among taken u ≡ true) (λ u has. contains_among taken u has) (row_at rows place) free.after))

next_from_find : (rows : List (List ℕ)) (taken : List ℕ) (place : ℕ) → find (is_free rows taken) (places rows) ≡ Some place → IsNext rows taken place
next_from_find rows taken place e =
    let found = find_some (is_free rows taken) 0 (length rows) place e in
    record {
      free = free_from_test rows taken place (omega (arith, found.1)) found.2;
      earliest = λ other free. ⊎_elim (λ (lt : other < place). absurd (false≢true (sym (found.3 other (omega arith) lt) ∙ test_from_free rows taken other free))) (λ (ge : place ≤ other). ge) (cases_lt other place);
    }

-- each place of the list is the next one after those before it
abbrev IsTaken : List (List ℕ) → List ℕ → Type 0
IsTaken rows order = (turn : ℕ) → turn < length order → IsNext rows (take turn order) (get_or order turn 0)

taken_push : (rows : List (List ℕ)) (order : List ℕ) (place : ℕ) → IsTaken rows order → IsNext rows order place → IsTaken rows (order ++ place ∷ [])
taken_push rows order place steps next turn inside =
    ⊎_elim
    (λ (before : turn < length order). let P : List ℕ → Type 0 = λ taken. IsNext rows taken (get_or (order ++ place ∷ []) turn 0) in let Q : ℕ → Type 0 = λ p. IsNext rows (take turn order) p in subst P (sym (take-append-le turn order (place ∷ []) (omega arith))) (subst Q (sym (get_or_append_left order (place ∷ []) 0 turn before)) (steps turn before)))
    (λ (last : length order ≤ turn). let at : length order ≡ turn = omega (arith, length_push order place) in let P : List ℕ → Type 0 = λ taken. IsNext rows taken (get_or (order ++ place ∷ []) turn 0) in let Q : ℕ → Type 0 = λ p. IsNext rows order p in subst P (sym (take_at order (place ∷ []) turn at)) (subst Q (sym (get_or_push order place 0 turn at)) next))
    (cases_lt turn (length order))

steps_in : (rows : List (List ℕ)) (turns : ℕ) → IsTaken rows (taken_in turns rows)
unfolding taken_in
steps_in rows zero = λ turn inside. absurd (omega arith)
steps_in rows (suc turns) = step (find (is_free rows (taken_in turns rows)) (places rows)) refl (steps_in rows turns)
  where
    step : (o : Option ℕ) → find (is_free rows (taken_in turns rows)) (places rows) ≡ o → IsTaken rows (taken_in turns rows) → IsTaken rows (taken_in turns rows ++ option_to_list o)
    step None e was = subst (IsTaken rows) (sym (append-nil (taken_in turns rows))) was
    step (Some place) e was =
        taken_push rows (taken_in turns rows) place was (next_from_find rows (taken_in turns rows) place e)

eqb_sym : (a b : ℕ) → eqb a b ≡ eqb b a
eqb_sym a b =
    ⊎_elim (λ (e : a ≡ b). eq-eqb a b e ∙ sym (eq-eqb b a (sym e))) (λ (ne : a ≡ b → ⊥). ne_eqb a b ne ∙ sym (ne_eqb b a (λ e. ne (sym e)))) (cases_eq a b)

among_flip : (xs : List ℕ) (q : ℕ) → list_any (eqb q) xs ≡ is_among xs q
among_flip [] q = refl
among_flip (x ∷ xs) q = ap (λ b. b || list_any (eqb q) xs) (eqb_sym q x) ∙ ap (λ b. eqb x q || b) (among_flip xs q)

distinct_in : (rows : List (List ℕ)) (turns : ℕ) → IsDistinct eqb (taken_in turns rows)
unfolding taken_in IsDistinct
distinct_in rows zero = tt
distinct_in rows (suc turns) =
    step (find (is_free rows (taken_in turns rows)) (places rows)) refl (distinct_in rows turns)
  where
    step : (o : Option ℕ) → find (is_free rows (taken_in turns rows)) (places rows) ≡ o → IsDistinct eqb (taken_in turns rows) → IsDistinct eqb (taken_in turns rows ++ option_to_list o)
    step None e was = subst (IsDistinct eqb) (sym (append-nil (taken_in turns rows))) was
    step (Some place) e was =
        let free = (find_some (is_free rows (taken_in turns rows)) 0 (length rows) place e).2 in
        let fresh : is_among (taken_in turns rows) place ≡ false =
        not-true (is_among (taken_in turns rows) place) (and_parts (not (is_among (taken_in turns rows) place)) (list_all (is_among (taken_in turns rows)) (row_at rows place)) free).0 in
        IsDistinct-push nat_eq_equiv (taken_in turns rows) place was (among_flip (taken_in turns rows) place ∙ fresh)

-- each turn takes a place until none may be taken
full_or_ended : (rows : List (List ℕ)) (turns : ℕ) → (length (taken_in turns rows) ≡ turns) ⊎ (find (is_free rows (taken_in turns rows)) (places rows) ≡ None)
unfolding taken_in
full_or_ended rows zero = inl refl
full_or_ended rows (suc turns) =
    step (find (is_free rows (taken_in turns rows)) (places rows)) refl (full_or_ended rows turns)
  where
    step : (o : Option ℕ) → find (is_free rows (taken_in turns rows)) (places rows) ≡ o → (length (taken_in turns rows) ≡ turns) ⊎ (find (is_free rows (taken_in turns rows)) (places rows) ≡ None) → (length (taken_in turns rows ++ option_to_list o) ≡ suc turns) ⊎ (find (is_free rows (taken_in turns rows ++ option_to_list o)) (places rows) ≡ None)
    step None e was =
        inr (subst (λ order. find (is_free rows order) (places rows) ≡ None) (sym (append-nil (taken_in turns rows))) e)
    step (Some place) e (inl full) = inl (omega (arith, length_push (taken_in turns rows) place, full))
    step (Some place) e (inr ended) = absurd (none-some place (sym ended ∙ e))

order_ends : (rows : List (List ℕ)) (place : ℕ) → IsFree rows (order_of rows) place → ⊥
order_ends rows place free =
    ⊎_elim
    (λ (full : length (order_of rows) ≡ length rows). absurd (omega (arith, length-le_from_distinct_below (order_of rows ++ place ∷ []) (length rows) (IsDistinct-push nat_eq_equiv (order_of rows) place (distinct_in rows (length rows)) (among_flip (order_of rows) place ∙ fresh)) below, length_push (order_of rows) place, full)))
    (λ (ended : find (is_free rows (order_of rows)) (places rows) ≡ None). true≢false (sym (test_from_free rows (order_of rows) place free) ∙ find_nothing (is_free rows (order_of rows)) 0 (length rows) ended place (omega arith) (omega (arith, free.here))))
    (full_or_ended rows (length rows))
  where
    fresh : is_among (order_of rows) place ≡ false
    fresh = false_from_ne_true (is_among (order_of rows) place) (λ e. free.fresh (among_contains (order_of rows) place e))

    below : (q : ℕ) → list_any (eqb q) (order_of rows ++ place ∷ []) ≡ true → q < length rows
    below q e =
        ⊎_elim
        (λ (old : is_among (order_of rows) q ≡ true). All-contains (λ p. p < length rows) (order_of rows) q (order_within (length rows) rows) (among_contains (order_of rows) q old))
        (λ (new : eqb place q ≡ true). subst (λ p. p < length rows) (eqb-true place q new) free.here)
        (or_cases (is_among (order_of rows) q) (eqb place q) (sym (among-push (order_of rows) place q) ∙ sym (among_flip (order_of rows ++ place ∷ []) q) ∙ e))

pub order_is : (rows : List (List ℕ)) → IsOrder rows (order_of rows)
order_is rows = record { step = steps_in rows (length rows); ends = order_ends rows }

-- two orders agree as far as both go
same_to : (rows : List (List ℕ)) (xs ys : List ℕ) → IsOrder rows xs → IsOrder rows ys → (k : ℕ) → k ≤ length xs → k ≤ length ys → take k xs ≡ take k ys
same_to rows xs ys of_xs of_ys zero in_xs in_ys = refl
same_to rows xs ys of_xs of_ys (suc k) in_xs in_ys =
    let before : take k xs ≡ take k ys = same_to rows xs ys of_xs of_ys k (omega arith) (omega arith) in
    let P : List ℕ → Type 0 = λ taken. IsNext rows taken (get_or ys k 0) in
    let x : IsNext rows (take k xs) (get_or xs k 0) = of_xs.step k (omega arith) in
    let y : IsNext rows (take k xs) (get_or ys k 0) = subst P (sym before) (of_ys.step k (omega arith)) in
    let same : get_or xs k 0 ≡ get_or ys k 0 =
    omega (arith, x.earliest (get_or ys k 0) y.free, y.earliest (get_or xs k 0) x.free) in
    subst (λ n. take n xs ≡ take n ys) (add-one k) (take_more_same xs ys k 0 (omega arith) (omega arith) before same)

no_longer : (rows : List (List ℕ)) (xs ys : List ℕ) → IsOrder rows xs → IsOrder rows ys → length ys ≤ length xs
no_longer rows xs ys of_xs of_ys =
    ⊎_elim
    (λ (longer : length xs < length ys). let front : take (length xs) ys ≡ xs = sym (same_to rows xs ys of_xs of_ys (length xs) (omega arith) (omega arith)) ∙ take_all (length xs) xs (omega arith) in let P : List ℕ → Type 0 = λ taken. IsNext rows taken (get_or ys (length xs) 0) in let next : IsNext rows xs (get_or ys (length xs) 0) = subst P front (of_ys.step (length xs) longer) in absurd (of_xs.ends (get_or ys (length xs) 0) next.free))
    (λ (short : length ys ≤ length xs). short)
    (cases_lt (length xs) (length ys))

pub order_is_one : (rows : List (List ℕ)) (xs ys : List ℕ) → IsOrder rows xs → IsOrder rows ys → xs ≡ ys
order_is_one rows xs ys of_xs of_ys =
    sym (take_all (length xs) xs (omega arith))
    ∙ same_to rows xs ys of_xs of_ys (length xs) (omega arith) (no_longer rows ys xs of_ys of_xs)
    ∙ take_all (length xs) ys (no_longer rows xs ys of_xs of_ys)

-- some element fails where not all pass
some_fails : (p : ℕ → Bool) (xs : List ℕ) → list_all p xs ≡ false → Any (λ x. p x ≡ false) xs
some_fails p [] e = absurd (true≢false e)
some_fails p (x ∷ xs) e =
    ⊎_elim
    (λ (here : p x ≡ false). (zero, x, omega arith, refl, here))
    (λ (there : list_all p xs ≡ false). let rest = some_fails p xs there in (suc rest.0, rest.1, omega (arith, rest.2), rest.3, rest.4))
    (and_cases (p x) (list_all p xs) e)

-- what is never taken has something upstream that is never taken
pub left_is_stuck : (rows : List (List ℕ)) (place : ℕ) → place < length rows → (Contains (order_of rows) place → ⊥) → Any (λ other. Contains (order_of rows) other → ⊥) (row_at rows place)
left_is_stuck rows place inside left =
    let order : List ℕ = order_of rows in
    let fresh : is_among order place ≡ false =
    false_from_ne_true (is_among order place) (λ e. left (among_contains order place e)) in
    let blocked : list_all (is_among order) (row_at rows place) ≡ false =
    false_from_ne_true (list_all (is_among order) (row_at rows place)) (λ e. order_ends rows place (free_from_test rows order place inside (and_from (not (is_among order place)) (list_all (is_among order) (row_at rows place)) (not_from_false (is_among order place) fresh) e))) in
    let some = some_fails (is_among order) (row_at rows place) blocked in
    (some.0, some.1, some.2, some.3, λ has. true≢false (sym (contains_among order some.1 has) ∙ some.4))
