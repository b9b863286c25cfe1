-- Facts on taking one place more: what is ready, what waits, and which place comes next.
use Rattle.std.proofs.Common.{◌≡◌, ◌<◌, ◌≤◌, ◌+◌, ℕ, Bool, true, false, eqb, ltb, not, ◌&&◌, ◌||◌, cond, List, [], ◌∷◌, ◌++◌, None, length, get_or, vec_len, sym, refl, ap, ◌∙◌, subst, ⊎_elim, add-one, suc, append-nil, arith}
use Rattle.std.specs.Ordering.{is_eq, is_gt, nat_cmp}
use Rattle.std.specs.List.{filter, find, list_any, range_with_len}
use Rattle.std.specs.Option.{option_to_list}
use Rattle.std.proofs.lemmas.Bool.{lt-ltb, le-leb, ltb-true, eqb-true, and_parts, and_from, or_cases, not-true, false≢true, false_from_ne_true}
use Rattle.std.proofs.lemmas.Bool.Decides.{nat_tests}
use Rattle.std.proofs.lemmas.List.FromFn.{length-range_with_len}
use Rattle.std.proofs.lemmas.List.Sums.{length-filter, count_by-le-length}
use Rattle.af_graph.specs.Rows.{places, row_at, is_among, turned}
use Rattle.af_graph.specs.Order.{is_free, one_more, taken_in}
use Rattle.af_graph.specs.Steps.{left_of, is_ready, KeepsPace, IsReleased, IsPair}
use Rattle.af_graph.specs.declared.taking.Taking.{Taking}
use Rattle.af_graph.proofs.PlaceLemmas.{find_first, find_none}
use Rattle.af_graph.proofs.RowLemmas.{length-turned, row_at-turned, among-filter, among-push, below_all}
use Rattle.af_graph.proofs.TakingLemmas.{left_less, free_is, ready_step}

-- ---- a graph and the graph turned

pub pair-length : (up down : List (List ℕ)) → IsPair up down → length down ≡ length up
pair-length up down pair = ap length pair.1 ∙ length-turned up

-- a row is a part of the places
pub up_row : (up down : List (List ℕ)) → IsPair up down → (q : ℕ) → q < length up → row_at up q ≡ filter (λ other. is_among (row_at down other) q) (range_with_len 0 (length up))
up_row up down pair q below =
    ap (λ rows. row_at rows q) pair.0
    ∙ row_at-turned down q (subst (λ n. q < n) (sym (pair-length up down pair)) below)
    ∙ ap (λ n. filter (λ other. is_among (row_at down other) q) (range_with_len 0 n)) (pair-length up down pair)

pub down_row : (up down : List (List ℕ)) → IsPair up down → (t : ℕ) → t < length up → row_at down t ≡ filter (λ other. is_among (row_at up other) t) (range_with_len 0 (length up))
down_row up down pair t below = ap (λ rows. row_at rows t) pair.1 ∙ row_at-turned up t below

-- what is downstream of a place is what it is upstream of
pub down_is : (up down : List (List ℕ)) → IsPair up down → (t q : ℕ) → t < length up → is_among (row_at down t) q ≡ (ltb q (length up) && is_among (row_at up q) t)
down_is up down pair t q below =
    ap (λ row. is_among row q) (down_row up down pair t below)
    ∙ among-filter (λ other. is_among (row_at up other) t) (places up) q
    ∙ ap (λ b. is_among (row_at up q) t && b) (below_all up q)
    ∙ ap (λ z. is_among (row_at up q) t && (z && ltb q (length up))) (le-leb 0 q (omega arith))
    ∙ swapped (is_among (row_at up q) t) (ltb q (length up))
  where
    swapped : (b c : Bool) → (b && (true && c)) ≡ (c && b)
    swapped true true = refl
    swapped true false = refl
    swapped false true = refl
    swapped false false = refl

-- a row is no longer than the list of rows
pub row_short : (rows : List (List ℕ)) → rows ≡ turned (turned rows) → (q : ℕ) → q < length rows → length (row_at rows q) ≤ length rows
row_short rows arranged q below =
    let twice : length (turned rows) ≡ length rows = length-turned rows in
    let f : ℕ → Bool = λ other. is_among (row_at (turned rows) other) q in
    let is : row_at rows q ≡ filter f (range_with_len 0 (length (turned rows))) =
    ap (λ rs. row_at rs q) arranged ∙ row_at-turned (turned rows) q (subst (λ n. q < n) (sym twice) below) in
    omega (arith, ap length is, length-filter f (range_with_len 0 (length (turned rows))), count_by-le-length f (range_with_len 0 (length (turned rows))), length-range_with_len 0 (length (turned rows)), twice)

-- ---- the turns

pub taken_none : (rows : List (List ℕ)) → taken_in 0 rows ≡ []
unfolding taken_in
taken_none rows = refl

pub taken_more : (rows : List (List ℕ)) (turns : ℕ) → taken_in (turns + 1) rows ≡ one_more rows (taken_in turns rows)
unfolding taken_in
taken_more rows turns = rw add-one refl

pub left_none : (row : List ℕ) → left_of [] row ≡ length row
left_none [] = refl
left_none (x ∷ row) = ap suc (left_none row)

-- ---- what may be taken

pub ready_free : (up : List (List ℕ)) (s : Taking) → KeepsPace up s → (t : ℕ) → is_ready s t ≡ true → (t < length up) × (is_among s.order.items t ≡ false) × (left_of s.order.items (row_at up t) ≡ 0)
ready_free up s pace t ready =
    let parts = and_parts (ltb t (length up)) (is_free up s.order.items t) (sym (pace.readies t) ∙ ready) in
    let free = and_parts (not (is_among s.order.items t)) (eqb (left_of s.order.items (row_at up t)) 0) (sym (free_is up s.order.items t) ∙ parts.1) in
    (ltb-true t (length up) parts.0, not-true (is_among s.order.items t) free.0, eqb-true (left_of s.order.items (row_at up t)) 0 free.1)

-- nothing is ready: nothing more is taken
pub none_more : (up : List (List ℕ)) (s : Taking) → KeepsPace up s → s.ready.keys ≡ [] → s.order.items ≡ one_more up s.order.items
none_more up s pace empty =
    let none : find (is_free up s.order.items) (places up) ≡ None = find_none (is_free up s.order.items) 0 (length up) not_free in
    sym (ap (λ o. s.order.items ++ option_to_list o) none ∙ append-nil s.order.items)
  where
    unready : (q : ℕ) → is_ready s q ≡ false
    unready q = ap (λ ks. list_any (λ k. is_eq (nat_cmp q k)) ks) empty

    not_free : (q : ℕ) → 0 ≤ q → q < 0 + length up → is_free up s.order.items q ≡ false
    not_free q _ below =
        let at : ltb q (length up) ≡ true = lt-ltb q (length up) (omega arith) in
        let said : (true && is_free up s.order.items q) ≡ false =
        ap (λ b. b && is_free up s.order.items q) (sym at) ∙ sym (pace.readies q) ∙ unready q in
        said

-- the least place that is ready is the next
pub next_is : (up : List (List ℕ)) (s : Taking) → KeepsPace up s → (t : ℕ) → is_ready s t ≡ true → ((q : ℕ) → is_ready s q ≡ true → is_gt (nat_cmp t q) ≡ false) → s.order.items ++ t ∷ [] ≡ one_more up s.order.items
next_is up s pace t ready least =
    let here = ready_free up s pace t ready in
    let free : is_free up s.order.items t ≡ true =
    (and_parts (ltb t (length up)) (is_free up s.order.items t) (sym (pace.readies t) ∙ ready)).1 in
    sym (ap (λ o. s.order.items ++ option_to_list o) (find_first (is_free up s.order.items) 0 (length up) t (omega arith) (omega (arith, here.0)) (λ k _ below. earlier k below) free))
  where
    above : (t k : ℕ) → k < t → is_gt (nat_cmp t k) ≡ true
    above t k below = grind (arith, nat_tests)

    earlier : (k : ℕ) → k < t → is_free up s.order.items k ≡ false
    earlier k below =
        false_from_ne_true (is_free up s.order.items k) (λ yes. let inside : k < length up = omega (arith, (ready_free up s pace t ready).0) in let said : is_ready s k ≡ true = pace.readies k ∙ and_from (ltb k (length up)) (is_free up s.order.items k) (lt-ltb k (length up) inside) yes in false≢true (sym (least k said) ∙ above t k below))

-- ---- after a step

is_at_is : (t q : ℕ) → is_eq (nat_cmp t q) ≡ eqb t q
is_at_is t q = grind (arith, nat_tests)

without : (b c : Bool) → cond b false c ≡ (c && not b)
without true true = refl
without true false = refl
without false true = refl
without false false = refl

-- the place taken is no longer ready
pub popped : (t q : ℕ) (was is : Bool) → is ≡ cond (is_eq (nat_cmp t q)) false was → is ≡ (was && not (eqb t q))
popped t q was is said = said ∙ ap (λ b. cond b false was) (is_at_is t q) ∙ without (eqb t q) was

settle : (b x : Bool) (m n : ℕ) → (b ≡ true → m ≡ n) → (b && (x && eqb m 0)) ≡ (b && (x && eqb n 0))
settle true x m n same = ap (λ k. x && eqb k 0) (same refl)
settle false x m n same = refl

module _ (up down : List (List ℕ)) (pair : IsPair up down) (s0 s2 s3 : Taking) (pace : KeepsPace up s0) (t : ℕ) (ready : is_ready s0 t ≡ true) (kept : s2.waiting ≡ s0.waiting) (pushed : s2.order.items ≡ s0.order.items ++ t ∷ []) (gone : (q : ℕ) → is_ready s2 q ≡ (is_ready s0 q && not (eqb t q))) (released : IsReleased (row_at down t) s2 s3) where
  here : (t < length up) × (is_among s0.order.items t ≡ false) × (left_of s0.order.items (row_at up t) ≡ 0)
  here = ready_free up s0 pace t ready

  fewer : (q : ℕ) → q < length up → get_or s3.waiting.items q 0 + cond (is_among (row_at up q) t) 1 0 ≡ get_or s0.waiting.items q 0
  fewer q below =
      ap (λ b. get_or s3.waiting.items q 0 + cond b 1 0) (sym (down_is up down pair t q here.0 ∙ ap (λ b. b && is_among (row_at up q) t) (lt-ltb q (length up) below)))
      ∙ released.waits q
      ∙ ap (λ v. get_or v.items q 0) kept

  waits : (q : ℕ) → q < length up → get_or s3.waiting.items q 0 ≡ left_of (s0.order.items ++ t ∷ []) (row_at up q)
  waits q below =
      let less = left_less s0.order.items t (λ other. is_among (row_at down other) q) (length up) (row_at up q) (up_row up down pair q below) here.1 in
      omega (arith, fewer q below, less, pace.waits q below)

  closed : (q : ℕ) → q < length up → is_among (s0.order.items ++ t ∷ []) q ≡ true → get_or s3.waiting.items q 0 ≡ 0
  closed q below among =
      ⊎_elim
      (λ (old : is_among s0.order.items q ≡ true). omega (arith, fewer q below, pace.closed q below old))
      (λ (new : eqb t q ≡ true). let same : t ≡ q = eqb-true t q new in omega (arith, fewer q below, pace.waits q below, subst (λ p. left_of s0.order.items (row_at up p) ≡ 0) same here.2))
      (or_cases (is_among s0.order.items q) (eqb t q) (sym (among-push s0.order.items t q) ∙ among))

  readies : (q : ℕ) → is_ready s3 q ≡ (ltb q (length up) && is_free up (s0.order.items ++ t ∷ []) q)
  readies q =
      let n : ℕ = length up in
      let taken : List ℕ = s0.order.items in
      let a : Bool = is_among taken q in
      let same : Bool = eqb t q in
      let left : ℕ = left_of taken (row_at up q) in
      let after : ℕ = get_or s3.waiting.items q 0 in
      let left_after : ℕ = left_of (taken ++ t ∷ []) (row_at up q) in
      released.readies q
      ∙ ap (λ r. r || (is_among (row_at down t) q && eqb after 0)) (gone q ∙ ap (λ r. r && not same) (pace.readies q ∙ ap (λ f. ltb q n && f) (free_is up taken q)))
      ∙ ap (λ u. ((ltb q n && (not a && eqb left 0)) && not same) || (u && eqb after 0)) (down_is up down pair t q here.0)
      ∙ ready_step (ltb q n) a (is_among (row_at up q) t) same left after (λ b. fewer q (ltb-true q n b) ∙ pace.waits q (ltb-true q n b)) (λ b among. sym (pace.waits q (ltb-true q n b)) ∙ pace.closed q (ltb-true q n b) among) (λ e. let at : t ≡ q = eqb-true t q e in (subst (λ p. is_among taken p ≡ false) at here.1, subst (λ p. left_of taken (row_at up p) ≡ 0) at here.2))
      ∙ settle (ltb q n) (not (a || same)) after left_after (λ b. waits q (ltb-true q n b))
      ∙ ap (λ m. ltb q n && (not m && eqb left_after 0)) (sym (among-push taken t q))
      ∙ ap (λ f. ltb q n && f) (sym (free_is up (taken ++ t ∷ []) q))

  pub pace_after : KeepsPace up s3
  pace_after = record {
    count = released.count ∙ ap vec_len kept ∙ pace.count;
    waits = λ q below. waits q below ∙ ap (λ order. left_of order (row_at up q)) (sym (released.order ∙ pushed));
    readies = λ q. readies q ∙ ap (λ order. ltb q (length up) && is_free up order q) (sym (released.order ∙ pushed));
    closed = λ q below among. closed q below (ap (λ order. is_among order q) (sym (released.order ∙ pushed)) ∙ among);
  }
