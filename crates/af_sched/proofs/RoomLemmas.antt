-- Runs started while their DAG has room left, counted once for each DAG, are those that the phase starts.
use Rattle.std.proofs.Common.{◌≡◌, ◌≢◌, ◌<◌, ◌+◌, ◌-◌, ◌∙◌, ℕ, List, [], ◌∷◌, length, map, take, get_or, set, refl, sym, ap, arith, zero, suc, Bool, true, false, cond, ◌&&◌, ⊎_elim, nat_lt}
use Rattle.std.specs.Prelude.{count_by, not}
use Rattle.std.specs.List.{AllByRecursion, list_any}
use Rattle.std.specs.List.Sorted.{IsStrictlySortedBy}
use Rattle.std.specs.Option.{option_map_or}
use Rattle.std.specs.Ordering.{nat_cmp}
use Rattle.std.specs.declared.cmp.Ordering.TheVariants.{Less}
use Rattle.std.specs.Cmp.Lexicographic.{nat_list_eq_equiv}
use Rattle.std.proofs.lemmas.Bool.{cases_Bool}
use Rattle.std.proofs.lemmas.Bool.Decides.{nat_tests}
use Rattle.std.proofs.lemmas.List.Sums.{count_by_more_no, count_by_more_yes, sum_by-cons}
use Rattle.af_graph.specs.Graph.{same_name}
use Rattle.af_runs.specs.Runs.{is_of}
use Rattle.af_runs.specs.declared.run.Run.{Run}
use Rattle.af_sched.specs.Rooms.{has_room, less_one, most_of, queued_of, room_left, room_of}
use Rattle.af_sched.specs.Start.{is_queued, is_running, queued_before, running_of, starts}
use Rattle.af_sched.specs.State.{has_dag, is_of_id, is_unpaused, most_running}
use Rattle.af_sched.specs.Steps.{StandsAt}
use Rattle.af_sched.specs.declared.dag_row.DagRow.{DagRow}
use Rattle.af_sched.proofs.FillLemmas.{numbers}
use Rattle.af_sched.proofs.FittingLemmas.{name_is}
use Rattle.af_sched.proofs.StandingLemmas.{dag_of-is, dag_of-none, neither}

-- ---- one row's number is changed
module _ {X : Type 0} (test : X → Bool) (g f : X → ℕ) where
  map-absent : (xs : List X) → list_any test xs ≡ false → map (λ x. cond (test x) (g x) (f x)) xs ≡ map f xs
  map-absent [] none = refl
  map-absent (x ∷ xs) none =
      let parts = neither (test x) (list_any test xs) none in rw parts.0 (ap (λ rest. f x ∷ rest) (map-absent xs parts.1))

  map-past : (xs : List X) → ((j : ℕ) (e : X) → j < length xs → test (get_or xs j e) ≡ false) → map (λ x. cond (test x) (g x) (f x)) xs ≡ map f xs
  map-past [] none = refl
  map-past (x ∷ xs) none =
      rw (none 0 x (omega arith)) (ap (λ rest. f x ∷ rest) (map-past xs (λ j e h. none (suc j) e (omega arith))))

  map-one : (xs : List X) (i : ℕ) (d : X) → i < length xs → ((e : X) → test (get_or xs i e) ≡ true) → ((j : ℕ) (e : X) → j < length xs → j ≢ i → test (get_or xs j e) ≡ false) → map (λ x. cond (test x) (g x) (f x)) xs ≡ set (map f xs) i (g (get_or xs i d))
  map-one [] i d within here alone = absurd (omega arith)
  map-one (x ∷ xs) zero d within here alone =
      rw (here x) (ap (λ rest. g x ∷ rest) (map-past xs (λ j e h. alone (suc j) e (omega arith) (omega arith))))
  map-one (x ∷ xs) (suc i) d within here alone =
      rw (alone 0 x (omega arith) (omega arith)) (ap (λ rest. f x ∷ rest) (map-one xs i d (omega arith) here (λ j e h n. alone (suc j) e (omega arith) (λ s. n (omega arith)))))

-- ---- one of the room of a DAG is taken
module _ (room : DagRow → ℕ) (dag_id : List ℕ) where
  at_place : (dags : List DagRow) (place : ℕ) (d : DagRow) → place < length dags → get_or (map room dags) place 0 ≡ room (get_or dags place d)
  at_place [] place d within = absurd (omega arith)
  at_place (row ∷ dags) zero d within = refl
  at_place (row ∷ dags) (suc place) d within = at_place dags place d (omega arith)

  pub had_at : (dags : List DagRow) (place : ℕ) → StandsAt dags dag_id place → nat_lt 0 (get_or (map room dags) place 0) ≡ has_room room dags dag_id
  had_at [] place stands = let within = stands.within in absurd (omega (arith, within))
  had_at (row ∷ dags) place stands =
      ap (nat_lt 0) (at_place (row ∷ dags) place row stands.within)
      ∙ sym (ap (λ o. option_map_or (λ (r : DagRow). nat_lt 0 (room r)) o false) (dag_of-is (row ∷ dags) dag_id place stands row))

  pub less_at : (dags : List DagRow) (place : ℕ) → StandsAt dags dag_id place → set (map room dags) place (get_or (map room dags) place 0 - 1) ≡ map (less_one room true dag_id) dags
  less_at [] place stands = let within = stands.within in absurd (omega (arith, within))
  less_at (row ∷ dags) place stands =
      ap (λ n. set (map room (row ∷ dags)) place (n - 1)) (at_place (row ∷ dags) place row stands.within)
      ∙ sym (map-one (is_of_id dag_id) (λ r. room r - 1) room (row ∷ dags) place row stands.within stands.here stands.alone)

  pub had_none : (dags : List DagRow) → has_dag dags dag_id ≡ false → has_room room dags dag_id ≡ false
  had_none dags absent = ap (λ o. option_map_or (λ (r : DagRow). nat_lt 0 (room r)) o false) (dag_of-none dags dag_id absent)

  pub less_none : (dags : List DagRow) → has_dag dags dag_id ≡ false → map (less_one room true dag_id) dags ≡ map room dags
  less_none dags absent = map-absent (is_of_id dag_id) (λ r. room r - 1) room dags absent

-- ---- one more run has been seen
more : (p : Run → Bool) (runs : List Run) (k : ℕ) (d : Run) (b : Bool) → k < length runs → p (get_or runs k d) ≡ b → count_by p (take (k + 1) runs) ≡ cond b (count_by p (take k runs) + 1) (count_by p (take k runs))
more p runs k d true inside is = count_by_more_yes p runs k d inside is
more p runs k d false inside is = count_by_more_no p runs k d inside is

less : (b : Bool) (all count counted : ℕ) → counted ≡ cond b (count + 1) count → all - counted ≡ cond b (all - count - 1) (all - count)
less true all count counted is = omega (arith, is)
less false all count counted is = omega (arith, is)

swap : (a b : Bool) → (a && b) ≡ (b && a)
swap true true = refl
swap true false = refl
swap false true = refl
swap false false = refl

module _ (counts : Run → Bool) (all : DagRow → ℕ) (runs : List Run) (k : ℕ) (run : Run) (inside : k < length runs) (here : run ≡ get_or runs k run) where
  of_dag : List Run → DagRow → ℕ
  of_dag seen row = count_by (λ other. is_of row.dag.dag_id other && counts other) seen

  seen_row : (row : DagRow) → all row - count_by (λ other. is_of row.dag.dag_id other && counts other) (take (k + 1) runs) ≡ less_one (λ r. all r - count_by (λ other. is_of r.dag.dag_id other && counts other) (take k runs)) (counts run) run.dag_id row
  seen_row row =
      let same : (is_of row.dag.dag_id (get_or runs k run) && counts (get_or runs k run)) ≡ (counts run && is_of_id run.dag_id row) =
      ap (λ (r : Run). is_of row.dag.dag_id r && counts r) (sym here)
      ∙ ap (λ (b : Bool). b && counts run) (nat_list_eq_equiv.symm run.dag_id row.dag.dag_id)
      ∙ swap (same_name row.dag.dag_id run.dag_id) (counts run) in
      less (counts run && is_of_id run.dag_id row) (all row) (count_by (λ other. is_of row.dag.dag_id other && counts other) (take k runs)) (count_by (λ other. is_of row.dag.dag_id other && counts other) (take (k + 1) runs))
      (more (λ other. is_of row.dag.dag_id other && counts other) runs k run (counts run && is_of_id run.dag_id row) inside same)

  seen_rows : (dags : List DagRow) → map (less_one (λ r. all r - count_by (λ other. is_of r.dag.dag_id other && counts other) (take k runs)) (counts run) run.dag_id) dags ≡ map (λ r. all r - count_by (λ other. is_of r.dag.dag_id other && counts other) (take (k + 1) runs)) dags
  seen_rows dags i = map (λ row. sym (seen_row row) i) dags

pub running_seen : (dags : List DagRow) (runs : List Run) (k : ℕ) (run : Run) → k < length runs → run ≡ get_or runs k run → map (less_one (room_of (take k runs)) (is_running run.state) run.dag_id) dags ≡ map (room_of (take (k + 1) runs)) dags
running_seen dags runs k run inside here = seen_rows (λ other. is_running other.state) most_of runs k run inside here dags

pub queued_seen : (dags : List DagRow) (runs : List Run) (k : ℕ) (run : Run) → k < length runs → run ≡ get_or runs k run → map (less_one (room_left runs (take k runs)) (is_queued run.state) run.dag_id) dags ≡ map (room_left runs (take (k + 1) runs)) dags
queued_seen dags runs k run inside here = seen_rows (λ other. is_queued other.state) (room_of runs) runs k run inside here dags

none_taken : (n : ℕ) → n - 0 ≡ n
none_taken n = omega arith

pub running_none : (dags : List DagRow) → map most_of dags ≡ map (room_of []) dags
running_none dags i = map (λ row. sym (none_taken (most_of row)) i) dags

pub queued_none : (dags : List DagRow) (runs : List Run) → map (room_of runs) dags ≡ map (room_left runs []) dags
queued_none dags runs i = map (λ row. sym (none_taken (room_of runs row)) i) dags

-- ---- the runs that stand before one are those of smaller numbers
not_below : (a b : ℕ) → nat_cmp a b ≡ Less → nat_lt b a ≡ false
not_below a b above = grind (arith, nat_tests)

below : (a b : ℕ) → nat_cmp a b ≡ Less → nat_lt a b ≡ true
below a b less = grind (arith, nat_tests)

not_itself : (a : ℕ) → nat_lt a a ≡ false
not_itself a = grind (arith, nat_tests)

and_false : (b : Bool) → (b && false) ≡ false
and_false true = refl
and_false false = refl

and_true : (b : Bool) → (b && true) ≡ b
and_true true = refl
and_true false = refl

module _ (p : Run → Bool) where
  none_below : (n : ℕ) (runs : List Run) → AllByRecursion (λ q. nat_cmp n q ≡ Less) (numbers runs) → count_by (λ other. p other && nat_lt other.number n) runs ≡ 0
  none_below n [] above = refl
  none_below n (run ∷ runs) above = rw (not_below n run.number above.0, and_false (p run)) (none_below n runs above.1)

  number_above : (a : ℕ) (runs : List Run) (k : ℕ) (d : Run) → k < length runs → AllByRecursion (λ q. nat_cmp a q ≡ Less) (numbers runs) → nat_cmp a (get_or runs k d).number ≡ Less
  number_above a [] k d inside above = absurd (omega arith)
  number_above a (run ∷ runs) zero d inside above = above.0
  number_above a (run ∷ runs) (suc k) d inside above = number_above a runs k d (omega arith) above.1

  before_is_front : (runs : List Run) (k : ℕ) (d : Run) → k < length runs → IsStrictlySortedBy nat_cmp (numbers runs) → count_by (λ other. p other && nat_lt other.number (get_or runs k d).number) runs ≡ count_by p (take k runs)
  unfolding IsStrictlySortedBy
  before_is_front [] k d inside order = absurd (omega arith)
  before_is_front (run ∷ runs) zero d inside order = rw (not_itself run.number, and_false (p run)) (none_below run.number runs order.0)
  before_is_front (run ∷ runs) (suc k) d inside order =
      let n : ℕ = (get_or runs k d).number in
      let same : (p run && nat_lt run.number n) ≡ p run = ap (λ (b : Bool). p run && b) (below run.number n (number_above run.number runs k d (omega arith) order.0)) ∙ and_true (p run) in
      sum_by-cons (λ other. cond (p other && nat_lt other.number n) 1 0) run runs
      ∙ (λ i. cond (same i) 1 0 + before_is_front runs k d (omega arith) order.1 i)
      ∙ sym (sum_by-cons (λ other. cond (p other) 1 0) run (take k runs))

-- ---- a run starts where its DAG has room left
has_left : (is_paused : Bool) (most running waiting : ℕ) → nat_lt 0 (cond is_paused 0 most - running - waiting) ≡ (not is_paused && nat_lt (running + waiting) most)
has_left true most running waiting = grind (arith, nat_tests)
has_left false most running waiting = grind (arith, nat_tests)

and_assoc : (a b c : Bool) → (a && (b && c)) ≡ ((a && b) && c)
and_assoc true b c = refl
and_assoc false b c = refl

module _ (runs seen : List Run) (dag_id : List ℕ) where
  at_row : (row : DagRow) → row.dag.dag_id ≡ dag_id → nat_lt 0 (room_left runs seen row) ≡ (not row.is_paused && nat_lt (running_of runs dag_id + queued_of seen dag_id) row.dag.max_active_runs)
  at_row row same =
      has_left row.is_paused row.dag.max_active_runs (running_of runs row.dag.dag_id) (queued_of seen row.dag.dag_id)
      ∙ ap (λ id. not row.is_paused && nat_lt (running_of runs id + queued_of seen id) row.dag.max_active_runs) same

  room_is : (dags : List DagRow) → has_room (room_left runs seen) dags dag_id ≡ (is_unpaused dags dag_id && nat_lt (running_of runs dag_id + queued_of seen dag_id) (most_running dags dag_id))
  room_is [] = refl
  room_is (row ∷ dags) =
      ⊎_elim
      (λ (is : is_of_id dag_id row ≡ true). rw is (at_row row (name_is row.dag.dag_id dag_id is)))
      (λ (other : is_of_id dag_id row ≡ false). rw other (room_is dags))
      (cases_Bool (is_of_id dag_id row))

pub starts_is : (dags : List DagRow) (runs : List Run) (k : ℕ) (run : Run) → k < length runs → run ≡ get_or runs k run → IsStrictlySortedBy nat_cmp (numbers runs) → (is_queued run.state && has_room (room_left runs (take k runs)) dags run.dag_id) ≡ starts dags runs run
starts_is dags runs k run inside here order =
    let waiting : queued_of (take k runs) run.dag_id ≡ queued_before runs run =
    sym (before_is_front (λ other. is_of run.dag_id other && is_queued other.state) runs k run inside order)
    ∙ ap (λ (r : Run). count_by (λ other. is_of run.dag_id other && is_queued other.state && nat_lt other.number r.number) runs) (sym here) in
    ap (λ (b : Bool). is_queued run.state && b) (room_is runs (take k runs) run.dag_id dags)
    ∙ and_assoc (is_queued run.state) (is_unpaused dags run.dag_id) (nat_lt (running_of runs run.dag_id + queued_of (take k runs) run.dag_id) (most_running dags run.dag_id))
    ∙ ap (λ n. is_queued run.state && is_unpaused dags run.dag_id && nat_lt (running_of runs run.dag_id + n) (most_running dags run.dag_id)) waiting
