-- Facts on rows of places: how many there are, what is among them, and that turning them twice arranges them.
use Rattle.std.proofs.Common.{◌≤◌, ◌-◌, ◌++◌, ◌||◌, cond, Some, set, ⊎_elim, append-nil, ◌≡◌, ◌<◌, ◌+◌, ℕ, Bool, true, false, eqb, ltb, leb, ◌&&◌, List, [], ◌∷◌, length, get_or, sym, refl, ap, ◌∙◌, subst, zero-add, arith, zero, suc}
use Rattle.std.specs.List.{filter, range_with_len, slice_get}
use Rattle.std.specs.Option.{option_map_or}
use Rattle.std.proofs.lemmas.Option.{slice_get-get_or}
use Rattle.std.proofs.lemmas.List.Elements.{filter-append}
use Rattle.std.proofs.lemmas.List.Folds.{list_any-append}
use Rattle.std.proofs.lemmas.Bool.{cases_lt, eqb-true, eq-eqb, ne_eqb, cases_eq, ltb-true, le-ltb, and_parts, and_right, or_left, or_right, or_parts, cond-true, cond-false}
use Rattle.std.proofs.lemmas.List.FromFn.{length-map-range_with_len, get_or-map-range_with_len, map-range_with_len_more}
use Rattle.std.proofs.lemmas.Grind.{common_steps}
use Rattle.std.proofs.lemmas.Bool.Decides.{nat_tests}
use Rattle.af_graph.specs.Rows.{places, row_at, is_among, arranged, turned, with_last, with_each}
use Rattle.af_graph.specs.Graph.{named_rows, upstream_rows, downstream_rows}
use Rattle.af_graph.specs.declared.task_spec.TaskSpec.{TaskSpec}
use Rattle.std.proofs.lemmas.List.{length-map, same_lists, get_or_default, map-id, get_or-set_same, get_or-set_other, get_or_past, get_or_push, length_push}

pub length-turned : (rows : List (List ℕ)) → length (turned rows) ≡ length rows
length-turned rows = length-map-range_with_len (λ place. filter (λ other. is_among (row_at rows other) place) (places rows)) 0 (length rows)

pub length-arranged : (rows : List (List ℕ)) → length (arranged rows) ≡ length rows
length-arranged rows = length-map-range_with_len (λ place. filter (is_among (row_at rows place)) (places rows)) 0 (length rows)

pub length-upstream_rows : (tasks : List TaskSpec) → length (upstream_rows tasks) ≡ length tasks
unfolding upstream_rows
length-upstream_rows tasks = length-arranged (named_rows tasks) ∙ length-map tasks _

pub length-downstream_rows : (tasks : List TaskSpec) → length (downstream_rows tasks) ≡ length tasks
unfolding downstream_rows
length-downstream_rows tasks = length-turned (named_rows tasks) ∙ length-map tasks _

-- what is among a filtered list passes the test and was among the list
pub among-filter : (p : ℕ → Bool) (xs : List ℕ) (q : ℕ) → is_among (filter p xs) q ≡ (p q && is_among xs q)
among-filter p [] q = grind (arith, common_steps)
among-filter p (x ∷ xs) q =
    let ih = among-filter p xs q in
    among_step p x xs q ih
  where
    among_step : (p : ℕ → Bool) (x : ℕ) (xs : List ℕ) (q : ℕ) → is_among (filter p xs) q ≡ (p q && is_among xs q) → is_among (filter p (x ∷ xs)) q ≡ (p q && is_among (x ∷ xs) q)
    among_step p x xs q ih = grind (arith, nat_tests, ih, eqb-true x q)

-- at each place of a list, and nowhere else
pub among-range : (a n q : ℕ) → is_among (range_with_len a n) q ≡ (leb a q && ltb q (a + n))
among-range a zero q = grind (arith, nat_tests)
among-range a (suc n) q = let ih = among-range (a + 1) n q in grind (arith, nat_tests, ih)

pub among-places : {X : Type 0} (xs : List X) (q : ℕ) → q < length xs → is_among (places xs) q ≡ true
among-places xs q below = rw among-range (grind (arith, nat_tests))

pub below_all : {X : Type 0} (xs : List X) (q : ℕ) → is_among (places xs) q ≡ (leb 0 q && ltb q (length xs))
below_all xs q = among-range 0 (length xs) q ∙ ap (λ n. leb 0 q && ltb q n) (zero-add (length xs))

-- two tests that agree on what is among a list keep the same of it
pub filter_same : (p r : ℕ → Bool) (xs : List ℕ) → ((q : ℕ) → is_among xs q ≡ true → p q ≡ r q) → filter p xs ≡ filter r xs
filter_same p r [] agree = refl
filter_same p r (x ∷ xs) agree =
    let here : p x ≡ r x = agree x (or_left (eqb x x) (is_among xs x) (eq-eqb x x refl)) in
    let ih : filter p xs ≡ filter r xs = filter_same p r xs (λ q e. agree q (or_right (eqb x q) (is_among xs q) e)) in
    rw (here, ih)

-- the same on the places of a list
pub filter_same_places : {X : Type 0} (p r : ℕ → Bool) (xs : List X) → ((q : ℕ) → q < length xs → p q ≡ r q) → filter p (places xs) ≡ filter r (places xs)
filter_same_places p r xs agree =
    filter_same p r (places xs) (λ q e. agree q (ltb-true q (length xs) (and_parts (leb 0 q) (ltb q (length xs)) (sym (below_all xs q) ∙ e)).1))

pub row_at-turned : (rows : List (List ℕ)) (place : ℕ) → place < length rows → row_at (turned rows) place ≡ filter (λ other. is_among (row_at rows other) place) (places rows)
row_at-turned rows place below =
    get_or-map-range_with_len (λ p. filter (λ other. is_among (row_at rows other) p) (places rows)) 0 (length rows) place place [] below (omega arith)

pub row_at-arranged : (rows : List (List ℕ)) (place : ℕ) → place < length rows → row_at (arranged rows) place ≡ filter (is_among (row_at rows place)) (places rows)
row_at-arranged rows place below =
    get_or-map-range_with_len (λ p. filter (is_among (row_at rows p)) (places rows)) 0 (length rows) place place [] below (omega arith)

and_true : (b : Bool) → (b && true) ≡ b
and_true true = refl
and_true false = refl

-- which place's row has which, once the rows are turned
pub among-turned : (rows : List (List ℕ)) (p q : ℕ) → p < length rows → q < length rows → is_among (row_at (turned rows) p) q ≡ is_among (row_at rows q) p
among-turned rows p q below_p below_q =
    rw (row_at-turned rows p below_p, among-filter (λ other. is_among (row_at rows other) p) (places rows) q, among-places rows q below_q) (and_true (is_among (row_at rows q) p))

pub turned-turned : (rows : List (List ℕ)) → turned (turned rows) ≡ arranged rows
turned-turned rows =
    same_lists (turned (turned rows)) (arranged rows) (length-turned (turned rows) ∙ length-turned rows ∙ sym (length-arranged rows)) (λ k d h. at k d (subst (λ n. k < n) (length-turned (turned rows) ∙ length-turned rows) h))
  where
    at : (k : ℕ) (d : List ℕ) → k < length rows → get_or (turned (turned rows)) k d ≡ get_or (arranged rows) k d
    at k d h =
        let of_once : k < length (turned rows) = subst (λ n. k < n) (sym (length-turned rows)) h in
        let of_twice : k < length (turned (turned rows)) = subst (λ n. k < n) (sym (length-turned (turned rows))) of_once in
        let of_arranged : k < length (arranged rows) = subst (λ n. k < n) (sym (length-arranged rows)) h in
        let back : ℕ → Bool = λ other. is_among (row_at (turned rows) other) k in
        get_or_default (turned (turned rows)) k d [] of_twice
        ∙ row_at-turned (turned rows) k of_once
        ∙ ap (λ n. filter back (range_with_len 0 n)) (length-turned rows)
        ∙ filter_same_places back (is_among (row_at rows k)) rows (λ q below. among-turned rows q k below h)
        ∙ sym (row_at-arranged rows k h)
        ∙ get_or_default (arranged rows) k [] d of_arranged

-- a range with one more number
range_more : (n : ℕ) → range_with_len 0 (n + 1) ≡ range_with_len 0 n ++ n ∷ []
range_more n =
    sym (map-id (range_with_len 0 (n + 1)))
    ∙ map-range_with_len_more (λ (x : ℕ). x) 0 n n (zero-add n)
    ∙ ap (λ xs. xs ++ n ∷ []) (map-id (range_with_len 0 n))

pub filter_range_more : (p : ℕ → Bool) (n : ℕ) → filter p (range_with_len 0 (n + 1)) ≡ with_each (p n) (filter p (range_with_len 0 n)) n
filter_range_more p n =
    ap (filter p) (range_more n)
    ∙ filter-append p (range_with_len 0 n) (n ∷ [])
    ∙ elim (p n) as (λ b. filter p (range_with_len 0 n) ++ cond b (n ∷ []) [] ≡ with_each b (filter p (range_with_len 0 n)) n) [ true ↦ refl | false ↦ append-nil (filter p (range_with_len 0 n)) ]

or_none : (b : Bool) → (b || false) ≡ b
or_none true = refl
or_none false = refl

pub among-push : (done : List ℕ) (at q : ℕ) → is_among (done ++ at ∷ []) q ≡ (is_among done q || eqb at q)
among-push done at q =
    list_any-append (λ other. eqb other q) done (at ∷ []) ∙ ap (λ b. is_among done q || b) (or_none (eqb at q))

-- a place that isn't in a row isn't its last
not_last : (row : List ℕ) (at place : ℕ) → is_among row place ≡ false → option_map_or (λ last. eqb last place) (slice_get row at) false ≡ false
not_last [] at place fresh = refl
not_last (x ∷ row) zero place fresh = (or_parts (eqb x place) (is_among row place) fresh).0
not_last (x ∷ row) (suc at) place fresh = not_last row at place (or_parts (eqb x place) (is_among row place) fresh).1

pub with_last_fresh : (row : List ℕ) (place : ℕ) → is_among row place ≡ false → with_last row place ≡ row ++ place ∷ []
with_last_fresh row place fresh =
    cond-false (option_map_or (λ last. eqb last place) (slice_get row (length row - 1)) false) row (row ++ place ∷ []) (not_last row (length row - 1) place fresh)

pub with_last_again : (row : List ℕ) (place : ℕ) → with_last (row ++ place ∷ []) place ≡ row ++ place ∷ []
with_last_again row place =
    let pushed : List ℕ = row ++ place ∷ [] in
    let long : length pushed ≡ length row + 1 = length_push row place in
    let last : slice_get pushed (length pushed - 1) ≡ Some place =
    slice_get-get_or pushed (length pushed - 1) place (omega (arith, long))
    ∙ ap Some (get_or_push row place place (length pushed - 1) (omega (arith, long))) in
    cond-true (option_map_or (λ other. eqb other place) (slice_get pushed (length pushed - 1)) false) pushed (pushed ++ place ∷ []) (ap (λ o. option_map_or (λ other. eqb other place) o false) last ∙ eq-eqb place place refl)

-- one row more gets the place
pub each_more : (initial now : List (List ℕ)) (done : List ℕ) (at place : ℕ) → ((row : ℕ) → is_among (row_at initial row) place ≡ false) → length now ≡ length initial → at < length initial → ((row : ℕ) → row < length initial → row_at now row ≡ with_each (is_among done row) (row_at initial row) place) → (row : ℕ) → row < length initial → row_at (set now at (with_last (row_at now at) place)) row ≡ with_each (is_among (done ++ at ∷ []) row) (row_at initial row) place
each_more initial now done at place fresh count here passed row below =
    ⊎_elim
    (λ (e : row ≡ at). subst (λ r. row_at (set now at (with_last (row_at now at) place)) r ≡ with_each (is_among (done ++ at ∷ []) r) (row_at initial r) place) (sym e) at_it)
    (λ (ne : row ≡ at → ⊥). get_or-set_other now at row (with_last (row_at now at) place) [] ne ∙ passed row below ∙ ap (λ b. with_each b (row_at initial row) place) (sym (among-push done at row ∙ ap (λ b. is_among done row || b) (ne_eqb at row (λ e. ne (sym e))) ∙ or_none (is_among done row))))
    (cases_eq row at)
  where
    twice : (b : Bool) → with_last (with_each b (row_at initial at) place) place ≡ row_at initial at ++ place ∷ []
    twice true = with_last_again (row_at initial at) place
    twice false = with_last_fresh (row_at initial at) place (fresh at)

    at_it : row_at (set now at (with_last (row_at now at) place)) at ≡ with_each (is_among (done ++ at ∷ []) at) (row_at initial at) place
    at_it =
        get_or-set_same now at (with_last (row_at now at) place) [] (subst (λ n. at < n) (sym count) here)
        ∙ ap (λ r. with_last r place) (passed at here)
        ∙ twice (is_among done at)
        ∙ sym (ap (λ b. with_each b (row_at initial at) place) (among-push done at at ∙ or_right (is_among done at) (eqb at at) (eq-eqb at at refl)))

-- rows that have been turned as far as a place don't have it
pub fresh_rows : (links rows : List (List ℕ)) (place : ℕ) → length links ≡ length rows → ((row : ℕ) → row < length rows → row_at links row ≡ filter (λ other. is_among (row_at rows other) row) (range_with_len 0 place)) → (row : ℕ) → is_among (row_at links row) place ≡ false
fresh_rows links rows place count passed row =
    ⊎_elim
    (λ (below : row < length rows). ap (λ r. is_among r place) (passed row below) ∙ among-filter (λ other. is_among (row_at rows other) row) (range_with_len 0 place) place ∙ and_right (is_among (row_at rows place) row) (is_among (range_with_len 0 place) place) (among-range 0 place place ∙ and_right (leb 0 place) (ltb place (0 + place)) (le-ltb place (0 + place) (omega arith))))
    (λ (above : length rows ≤ row). ap (λ r. is_among r place) (get_or_past links row [] (subst (λ n. n ≤ row) (sym count) above)))
    (cases_lt row (length rows))

-- each row has one place more
pub turned_more : (links now rows : List (List ℕ)) (place : ℕ) → length links ≡ length rows → ((row : ℕ) → row < length rows → row_at links row ≡ filter (λ other. is_among (row_at rows other) row) (range_with_len 0 place)) → ((row : ℕ) → row < length links → row_at now row ≡ with_each (is_among (row_at rows place) row) (row_at links row) place) → (row : ℕ) → row < length rows → row_at now row ≡ filter (λ other. is_among (row_at rows other) row) (range_with_len 0 (place + 1))
turned_more links now rows place count passed added row below =
    added row (subst (λ n. row < n) (sym count) below)
    ∙ ap (λ r. with_each (is_among (row_at rows place) row) r place) (passed row below)
    ∙ sym (filter_range_more (λ other. is_among (row_at rows other) row) place)

-- rows that have been turned as far as all places are the rows turned
pub turned_all : (links rows : List (List ℕ)) → length links ≡ length rows → ((row : ℕ) → row < length rows → row_at links row ≡ filter (λ other. is_among (row_at rows other) row) (range_with_len 0 (length rows))) → links ≡ turned rows
turned_all links rows count passed =
    same_lists links (turned rows) (count ∙ sym (length-turned rows)) (λ k d h. let below : k < length rows = subst (λ n. k < n) count h in get_or_default links k d [] h ∙ passed k below ∙ sym (row_at-turned rows k below) ∙ get_or_default (turned rows) k [] d (subst (λ n. k < n) (sym (length-turned rows)) below))
