-- What is queued of a pool fits.
use Rattle.std.proofs.Common.{◌≡◌, ◌<◌, ◌≤◌, ◌+◌, ◌∙◌, ℕ, List, [], ◌∷◌, length, map, get_or, refl, sym, ap, subst, arith, zero, suc, Bool, true, false, ◌&&◌, ⊎_elim, ◌⊎◌, inl, inr, max}
use Rattle.std.specs.Prelude.{Contains, filter}
use Rattle.std.specs.List.{AllByRecursion, IsDistinct}
use Rattle.std.specs.Ordering.{nat_cmp, is_lt}
use Rattle.std.specs.declared.cmp.Ordering.{Ordering}
use Rattle.std.specs.declared.cmp.Ordering.TheVariants.{Less, Equal, Greater}
use Rattle.std.proofs.lemmas.Bool.{cases_Bool, true≢false, false≢true}
use Rattle.std.proofs.lemmas.Bool.Decides.{nat_tests}
use Rattle.std.proofs.lemmas.Slice.Eq.{slice_eq-Decides}
use Rattle.std.specs.Cmp.{unsigned_Decides}
use Rattle.std.specs.Cmp.Lexicographic.{nat_list_eq_equiv}
use Rattle.af_graph.specs.Graph.{same_name}
use Rattle.af_pool.specs.Pools.{slots_of}
use Rattle.af_pool.specs.declared.pool.Pool.{Pool}
use Rattle.af_runs.specs.declared.run.Run.{Run}
use Rattle.af_sched.specs.Choosing.{same_seat}
use Rattle.af_sched.specs.Placed.{Placed, placed_in, placed_cmp, comes_before}
use Rattle.af_sched.specs.Queue.{occupied, occupant_of, IsQueueing, may_queue, finds_room, queued_earlier}
use Rattle.af_sched.specs.declared.dag_row.DagRow.{DagRow}
use Rattle.af_sched.proofs.PassingLemmas.{given, given-add}
use Rattle.af_sched.proofs.PlacedLemmas.{placed_order, before_trans, before_itself}
use Rattle.af_sched.proofs.StartLemmas.{get_or-same}

-- ---- the last of some instances
last_one : (xs : List Placed) → (xs ≡ []) ⊎ ((c : Placed) × Contains xs c × ((o : Placed) → Contains xs o → comes_before c o ≡ false))
last_one [] = inl refl
last_one (x ∷ xs) = inr (with_rest (last_one xs))
  where
    not : (b : Bool) → (b ≡ true → false ≡ true) → b ≡ false
    not true never = absurd (false≢true (never refl))
    not false never = refl

    in_rest : (o : Placed) → Contains (x ∷ xs) o → (x ≡ o) ⊎ Contains xs o
    in_rest o (zero, low, is) = inl is
    in_rest o (suc k, low, is) = inr (k, omega arith, is)

    with_rest : (xs ≡ []) ⊎ ((c : Placed) × Contains xs c × ((o : Placed) → Contains xs o → comes_before c o ≡ false)) → (c : Placed) × Contains (x ∷ xs) c × ((o : Placed) → Contains (x ∷ xs) o → comes_before c o ≡ false)
    with_rest (inl none) =
        (x, (zero, omega arith, refl), λ o has. ⊎_elim (λ (is : x ≡ o). subst (λ (p : Placed). comes_before x p ≡ false) is (before_itself x)) (λ (more : Contains xs o). let long = ap length none in absurd (omega (arith, more.1))) (in_rest o has))
    with_rest (inr (c, has_c, last)) =
        ⊎_elim
        (λ (up : comes_before c x ≡ true).
        (x, (zero, omega arith, refl), λ o has. ⊎_elim (λ (is : x ≡ o). subst (λ (p : Placed). comes_before x p ≡ false) is (before_itself x)) (λ (more : Contains xs o). not (comes_before x o) (λ on. sym (last o more) ∙ before_trans c x o up on)) (in_rest o has)))
        (λ (down : comes_before c x ≡ false).
        (c, (suc has_c.0, omega (arith, has_c.1), has_c.2), λ o has. ⊎_elim (λ (is : x ≡ o). subst (λ (p : Placed). comes_before c p ≡ false) is down) (λ (more : Contains xs o). last o more) (in_rest o has)))
        (cases_Bool (comes_before c x))

-- ---- what is queued of a pool fits
equal_seats : (a b : Placed) → placed_cmp a b ≡ Equal → same_seat a b ≡ true
equal_seats a b same = by (Rattle.std.specs.Ordering.int_cmp b.task.priority_weight a.task.priority_weight) same
  where
    last : (o : Ordering) → nat_cmp a.run.number b.run.number ≡ o → Rattle.std.specs.Ordering.ordering_then o (nat_cmp a.place b.place) ≡ Equal → same_seat a b ≡ true
    last Less is e = absurd (cc)
    last Greater is e = absurd (cc)
    last Equal is e = grind (arith, nat_tests)

    by : (p : Ordering) → Rattle.std.specs.Ordering.ordering_then p (Rattle.std.specs.Ordering.ordering_then (nat_cmp a.run.number b.run.number) (nat_cmp a.place b.place)) ≡ Equal → same_seat a b ≡ true
    by Less e = absurd (cc)
    by Greater e = absurd (cc)
    by Equal e = last (nat_cmp a.run.number b.run.number) refl e

turns : (a b : Placed) → same_seat a b ≡ false → comes_before a b ≡ false → comes_before b a ≡ true
turns a b apart not = by (placed_cmp a b) (placed_order.antisymm b a) (λ same. sym apart ∙ equal_seats a b same) not
  where
    by : (o : Ordering) → placed_cmp b a ≡ Rattle.std.specs.Ordering.ordering_reverse o → (o ≡ Equal → false ≡ true) → is_lt o ≡ false → comes_before b a ≡ true
    by Less is other not = absurd (true≢false not)
    by Equal is other not = absurd (false≢true (other refl))
    by Greater is other not = ap is_lt is

passing_of : (q : Placed → Bool) (xs : List Placed) → AllByRecursion (λ o. Contains xs o × (q o ≡ true)) (filter q xs)
passing_of q xs = go xs xs (λ k d inside. (k, inside, get_or-same xs k (get_or xs k d) d inside))
  where
    go : (all ys : List Placed) → ((k : ℕ) (d : Placed) → k < length ys → Contains all (get_or ys k d)) → AllByRecursion (λ o. Contains all o × (q o ≡ true)) (filter q ys)
    go all [] has = tt
    go all (y ∷ ys) has =
        let rest = go all ys (λ k d inside. has (suc k) d (omega arith)) in
        ⊎_elim (λ (is : q y ≡ true). rw is ((has 0 y (omega arith), is), rest)) (λ (no : q y ≡ false). rw no rest) (cases_Bool (q y))

rec_of : (P : Placed → Type 0) (xs : List Placed) (o : Placed) → AllByRecursion P xs → Contains xs o → P o
rec_of P [] o all has = absurd (omega (arith, has.1))
rec_of P (x ∷ xs) o all (zero, low, is) = subst P is all.0
rec_of P (x ∷ xs) o all (suc k, low, is) = rec_of P xs o all.1 (k, omega arith, is)

among_passing : (q : Placed → Bool) (xs : List Placed) (o : Placed) → Contains xs o → q o ≡ true → Contains (filter q xs) o
among_passing q [] o has is = absurd (omega (arith, has.1))
among_passing q (x ∷ xs) o (zero, low, same) is = let here : q x ≡ true = ap q same ∙ is in rw here (zero, omega arith, same)
among_passing q (x ∷ xs) o (suc k, low, same) is =
    let rest = among_passing q xs o (k, omega arith, same) is in
    ⊎_elim (λ (here : q x ≡ true). rw here (suc rest.0, omega (arith, rest.1), rest.2)) (λ (no : q x ≡ false). rw no rest) (cases_Bool (q x))

pub name_is : (a b : List ℕ) → same_name a b ≡ true → a ≡ b
name_is a b same = (slice_eq-Decides unsigned_Decides a b (same_name a b) refl).0 same

and_both : (a b : Bool) → (a && b) ≡ true → (a ≡ true) × (b ≡ true)
and_both true true is = (refl, refl)
and_both true false is = absurd (false≢true is)
and_both false b is = absurd (false≢true is)

module _ (dags : List DagRow) (runs : List Run) (pools : List Pool) (q : ℕ → ℕ → Bool) (distinct : IsDistinct same_seat (placed_in dags runs)) (is : IsQueueing dags runs pools q) where
  abbrev pub test : List ℕ → Placed → Bool
  test pool o = q o.run.number o.place && same_name o.task.pool pool

  fits_at : (c : Placed) → Contains (placed_in dags runs) c → q c.run.number c.place ≡ true → ((o : Placed) → Contains (filter (test c.task.pool) (placed_in dags runs)) o → comes_before c o ≡ false) → occupied dags runs c.task.pool + given (test c.task.pool) (placed_in dags runs) ≤ max (slots_of pools c.task.pool) (occupied dags runs c.task.pool)
  fits_at c has chosen last =
      let all : List Placed = placed_in dags runs in
      let pool : List ℕ = c.task.pool in
      let room = (and_both (may_queue dags c) (finds_room dags runs pools q c) (sym (is.exact c has) ∙ chosen)).1 in
      let more : given (test pool) all ≡ queued_earlier q all c + c.task.pool_slots =
      given-add (λ o. q o.run.number o.place && same_name o.task.pool pool && comes_before o c) (test pool) c all distinct has.0 c has.1 has.2
      (ap (λ (b : Bool). q c.run.number c.place && same_name pool pool && b) (before_itself c) ∙ ends_false (q c.run.number c.place) (same_name pool pool))
      ((λ i. chosen i && nat_list_eq_equiv.refl pool i))
      (λ k d inside apart.
      let o : Placed = get_or all k d in
      ⊎_elim
      (λ (passes : test pool o ≡ true).
      let before : comes_before o c ≡ true = turns c o apart (last o (among_passing (test pool) all o (k, inside, get_or-same all k o d inside) passes)) in
      passes ∙ (λ i. sym passes i && sym before i))
      (λ (fails : test pool o ≡ false). fails ∙ (λ i. sym fails i && comes_before o c))
      (cases_Bool (test pool o))) in
      grind (arith, nat_tests)
    where
      ends_false : (a b : Bool) → (a && b && false) ≡ false
      ends_false true true = refl
      ends_false true false = refl
      ends_false false b = refl

  pub given_fits : (pool : List ℕ) → occupied dags runs pool + given (test pool) (placed_in dags runs) ≤ max (slots_of pools pool) (occupied dags runs pool)
  given_fits pool = by (last_one (filter (test pool) (placed_in dags runs)))
    where
      by : (filter (test pool) (placed_in dags runs) ≡ []) ⊎ ((c : Placed) × Contains (filter (test pool) (placed_in dags runs)) c × ((o : Placed) → Contains (filter (test pool) (placed_in dags runs)) o → comes_before c o ≡ false)) → occupied dags runs pool + given (test pool) (placed_in dags runs) ≤ max (slots_of pools pool) (occupied dags runs pool)
      by (inl none) =
          let zero_given : given (test pool) (placed_in dags runs) ≡ 0 = ap (λ (xs : List Placed). Rattle.af_pool.specs.Occupants.slots_of_all (map occupant_of xs)) none in
          omega (arith, zero_given)
      by (inr found) =
          let c : Placed = found.0 in
          let told = rec_of (λ o. Contains (placed_in dags runs) o × (test pool o ≡ true)) (filter (test pool) (placed_in dags runs)) c (passing_of (test pool) (placed_in dags runs)) found.1 in
          let parts = and_both (q c.run.number c.place) (same_name c.task.pool pool) told.1 in
          let named : c.task.pool ≡ pool = name_is c.task.pool pool parts.1 in
          subst (λ (p : List ℕ). occupied dags runs p + given (test p) (placed_in dags runs) ≤ max (slots_of pools p) (occupied dags runs p)) named
          (fits_at c told.0 parts.0 (λ o has. found.2 o (subst (λ (p : List ℕ). Contains (filter (test p) (placed_in dags runs)) o) named has)))
