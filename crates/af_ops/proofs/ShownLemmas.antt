-- Which runs are told, and in which order.
use Rattle.std.proofs.Common.{◌≡◌, ◌∙◌, ◌<◌, ℕ, zero, suc, Bool, true, false, cond, List, [], ◌∷◌, length, get_or, refl, sym, ap, subst, arith}
use Rattle.std.specs.Prelude.{Contains, Some, find}
use Rattle.std.specs.Cmp.Lexicographic.{bytes_decides}
use Rattle.std.specs.List.{AllByRecursion, IsDistinct}
use Rattle.std.proofs.lemmas.Bool.{and_from, and_parts, false≢true}
use Rattle.std.proofs.lemmas.Cmp.{nat_cmp_total}
use Rattle.af_graph.specs.Graph.{same_name}
use Rattle.af_names.proofs.OrderLemmas.{order-filter}
use Rattle.af_runs.specs.Runs.{is_of, is_run, runs_of, same_ids}
use Rattle.af_runs.specs.declared.run.Run.{Run}
use Rattle.af_ops.specs.Laws.{RunsAreShownByTheirIds, RunsListedGoByNumber}
use Rattle.af_ops.specs.Listings.{read_rows}
use Rattle.af_ops.proofs.StepLemmas.{some_same}
use Rattle.af_ops.proofs.ListingLemmas.{order_cut}

number_of : Run → ℕ
number_of run = run.number

pub by_number : RunsListedGoByNumber
unfolding number_of
by_number reads window dag_id state are = (
  order_cut number_of nat_cmp_total window (read_rows reads (λ (run : Run). run.dag_id) state.runs)
      (order-filter number_of nat_cmp_total (λ (run : Run). reads run.dag_id) state.runs are.in_order),
  order_cut number_of nat_cmp_total window (runs_of state.runs dag_id)
      (order-filter number_of nat_cmp_total (is_of dag_id) state.runs are.in_order),
)

-- what passes is the first that passes
first_at : {X : Type 0} (p : X → Bool) (y : X) (ys : List X) (x : X) (b : Bool) → p y ≡ b → (find p ys ≡ Some x → Contains ys x × (p x ≡ true)) → cond b (Some y) (find p ys) ≡ Some x → Contains (y ∷ ys) x × (p x ≡ true)
first_at p y ys x true is rest found = ((0, omega arith, some_same found), subst (λ it. p it ≡ true) (some_same found) is)
first_at p y ys x false is rest found = let at = rest found in ((suc at.0.0, omega (arith, at.0.1), at.0.2), at.1)

found_there : {X : Type 0} (p : X → Bool) (xs : List X) (x : X) → find p xs ≡ Some x → Contains xs x × (p x ≡ true)
found_there p [] x found = cc
found_there p (y ∷ ys) x found = first_at p y ys x (p y) refl (found_there p ys x) found

apart_at : {X : Type 0} (P : X → Type 0) (xs : List X) (k : ℕ) (x : X) → AllByRecursion P xs → k < length xs → get_or xs k x ≡ x → P x
apart_at P [] k x all within is = absurd (omega (arith, within))
apart_at P (y ∷ ys) zero x all within is = subst P is all.0
apart_at P (y ∷ ys) (suc k) x all within is = apart_at P ys k x all.1 (omega (arith, within)) is

-- of rows of which no two are the same, the first that passes is the one, where those that pass are the same
only_at : {X : Type 0} (same : X → X → Bool) (p : X → Bool) → ((x y : X) → p x ≡ true → p y ≡ true → same x y ≡ true) → (xs : List X) (k : ℕ) (x : X) → IsDistinct same xs → k < length xs → get_or xs k x ≡ x → p x ≡ true → find p xs ≡ Some x
unfolding IsDistinct
only_at same p alike [] k x distinct within is passes = absurd (omega (arith, within))
only_at same p alike (y ∷ ys) zero x distinct within is passes = rw (ap p is ∙ passes) (ap Some is)
only_at same p alike (y ∷ ys) (suc k) x distinct within is passes =
    before (p y) refl (only_at same p alike ys k x distinct.1 (omega (arith, within)) is passes)
  where
    before : (b : Bool) → p y ≡ b → find p ys ≡ Some x → cond b (Some y) (find p ys) ≡ Some x
    before true it rest = absurd (false≢true (sym (apart_at (λ z. same y z ≡ false) ys k x distinct.0 (omega (arith, within)) is) ∙ alike y x it passes))
    before false it rest = rest

same_name_is : (one other : List ℕ) → same_name one other ≡ true → one ≡ other
same_name_is one other is = (bytes_decides one other).0 is

same_name_from : (one other : List ℕ) → one ≡ other → same_name one other ≡ true
same_name_from one other is = (bytes_decides one other).1 is

alike : (dag_id run_id : List ℕ) (one other : Run) → is_run dag_id run_id one ≡ true → is_run dag_id run_id other ≡ true → same_ids one other ≡ true
alike dag_id run_id one other first second =
    let a = and_parts (same_name one.dag_id dag_id) (same_name one.run_id run_id) first in
    let b = and_parts (same_name other.dag_id dag_id) (same_name other.run_id run_id) second in
    and_from (same_name other.dag_id one.dag_id) (same_name other.run_id one.run_id)
    (same_name_from other.dag_id one.dag_id (same_name_is other.dag_id dag_id b.0 ∙ sym (same_name_is one.dag_id dag_id a.0)))
    (same_name_from other.run_id one.run_id (same_name_is other.run_id run_id b.1 ∙ sym (same_name_is one.run_id run_id a.1)))

pub by_ids : RunsAreShownByTheirIds
by_ids dag_id run_id state run are = (
  (λ found.
      let at = found_there (is_run dag_id run_id) state.runs run found in
      let names = and_parts (same_name run.dag_id dag_id) (same_name run.run_id run_id) at.1 in
      (at.0, same_name_is run.dag_id dag_id names.0, same_name_is run.run_id run_id names.1)),
  (λ it. only_at same_ids (is_run dag_id run_id) (alike dag_id run_id) state.runs it.0.0 run are.one_of_an_id it.0.1 it.0.2
      (and_from (same_name run.dag_id dag_id) (same_name run.run_id run_id) (same_name_from run.dag_id dag_id it.1) (same_name_from run.run_id run_id it.2))),
)
