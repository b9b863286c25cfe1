-- No instance of a later run comes before one of a task that is as heavy as any.
use Rattle.std.proofs.Common.{◌≡◌, ◌+◌, ◌∙◌, ℕ, ℤ, List, [], ◌∷◌, ◌++◌, map, get_or, refl, sym, ap, subst, arith, zero, suc, Bool, false, true, cond, inl, inr, ⊎_elim}
use Rattle.std.specs.Prelude.{Contains, IfSome, insert, Option, Some, None, zip}
use Rattle.std.specs.Int.Signed.{◌≤ℤ◌, ◌<ℤ◌, <ℤ-≤ℤ_trans, clash_ℤ}
use Rattle.std.specs.List.{AllByRecursion, enumerate_from}
use Rattle.std.specs.List.Sorted.{IsStrictlySortedBy}
use Rattle.std.specs.Ordering.{nat_cmp, int_cmp, ordering_then, ordering_reverse, is_lt}
use Rattle.std.specs.Cmp.{nat_cmp_total}
use Rattle.std.specs.declared.cmp.Ordering.{Ordering}
use Rattle.std.specs.declared.cmp.Ordering.TheVariants.{Less, Equal, Greater}
use Rattle.std.proofs.lemmas.Bool.{cases_Bool}
use Rattle.std.proofs.lemmas.Bool.Decides.{nat_tests}
use Rattle.std.proofs.lemmas.Cmp.{int_ranked}
use Rattle.std.proofs.lemmas.Int.{by_lt_z}
use Rattle.std.proofs.lemmas.Grind.{flat_map-append}
use Rattle.std.proofs.lemmas.List.Elements.{All-nil, All-cons, Contains-append_left, Contains-append_cases}
use Rattle.af_names.proofs.OrderLemmas.{All-inserted, order-filter}
use Rattle.af_graph.specs.declared.dag_spec.DagSpec.{DagSpec}
use Rattle.af_graph.specs.declared.task_spec.TaskSpec.{TaskSpec}
use Rattle.af_runs.specs.Busy.{holders_of, holds_any}
use Rattle.af_runs.specs.declared.instance.Instance.{Instance}
use Rattle.af_runs.specs.declared.run.Run.{Run}
use Rattle.af_sched.specs.Claims.{is_claimable}
use Rattle.af_sched.specs.Placed.{Placed, IsFirst, IsFirstOf, comes_before, placed_in, placed_of}
use Rattle.af_sched.specs.State.{is_of_id, tasks_of}
use Rattle.af_sched.specs.Steps.{earlier, first_with}
use Rattle.af_sched.specs.Weights.{IsAsHeavy, NoTaskIsHeavier, NoneIsHeavier, StandsBefore}
use Rattle.af_sched.specs.declared.dag_row.DagRow.{DagRow}
use Rattle.af_sched.proofs.CandidateLemmas.{below_from}
use Rattle.af_sched.proofs.HolderPlacedLemmas.{first_of_holders}
use Rattle.af_sched.proofs.LikeLemmas.{SameDags}
use Rattle.af_sched.proofs.PlacedLemmas.{run_of_placed}

pub ≤ℤ_past : (a b c : ℤ) → a ≤ℤ b → b ≤ℤ c → a ≤ℤ c
≤ℤ_past a b c first second = by_lt_z c a (λ below. clash_ℤ (<ℤ-≤ℤ_trans below first) second) (λ past. past)

-- ---- the rows change, their definitions stay
pub none_heavier_same : (weight : ℤ) (old new : List DagRow) → SameDags old new → NoneIsHeavier weight old → NoneIsHeavier weight new
none_heavier_same weight [] [] same light = light
none_heavier_same weight [] (y ∷ ys) same light = absurd same
none_heavier_same weight (x ∷ xs) [] same light = absurd same
none_heavier_same weight (x ∷ xs) (y ∷ ys) same light =
    All-cons (λ (row : DagRow). NoTaskIsHeavier weight row.dag.tasks) y ys (subst (λ (dag : DagSpec). NoTaskIsHeavier weight dag.tasks) (sym same.0) (light 0 x (omega arith))) (none_heavier_same weight xs ys same.1 (λ j e low. light (suc j) e (omega arith)))

-- ---- one more row
pub raised_tasks : (low high : ℤ) (tasks : List TaskSpec) → low ≤ℤ high → NoTaskIsHeavier low tasks → NoTaskIsHeavier high tasks
raised_tasks low high tasks up light k d inside = ≤ℤ_past (get_or tasks k d).priority_weight low high (light k d inside) up

raised : (low high : ℤ) (dags : List DagRow) → low ≤ℤ high → NoneIsHeavier low dags → NoneIsHeavier high dags
raised low high dags up light k d inside = raised_tasks low high (get_or dags k d).dag.tasks up (light k d inside)

pub none_heavier_inserted : (low high : ℤ) (dags : List DagRow) (row : DagRow) (place : ℕ) → low ≤ℤ high → NoTaskIsHeavier high row.dag.tasks → NoneIsHeavier low dags → NoneIsHeavier high (insert dags place row)
none_heavier_inserted low high dags row place up here light =
    All-inserted (λ (r : DagRow). NoTaskIsHeavier high r.dag.tasks) dags row place (raised low high dags up light) here

-- ---- the tasks of a DAG, and of instances
module _ (weight : ℤ) where
  tasks_light : (dags : List DagRow) (id : List ℕ) → NoneIsHeavier weight dags → NoTaskIsHeavier weight (tasks_of dags id)
  tasks_light [] id light = All-nil (λ (task : TaskSpec). task.priority_weight ≤ℤ weight)
  tasks_light (row ∷ dags) id light =
      let rest = tasks_light dags id (λ j e low. light (suc j) e (omega arith)) in
      ⊎_elim
      (λ (is : is_of_id id row ≡ true). rw is (light 0 row (omega arith)))
      (λ (other : is_of_id id row ≡ false). rw other rest)
      (cases_Bool (is_of_id id row))

  task_light : (tasks : List TaskSpec) (run : Run) (placed : Placed) → NoTaskIsHeavier weight tasks → Contains (placed_of tasks run) placed → placed.task.priority_weight ≤ℤ weight
  task_light tasks run placed light has = go 0 tasks run.instances light has
    where
      go : (n : ℕ) (ts : List TaskSpec) (xs : List Instance) → NoTaskIsHeavier weight ts → Contains (map (λ row. record { run = run; place = row.0; task = row.1.0; instance = row.1.1 }) (enumerate_from n (zip ts xs))) placed → placed.task.priority_weight ≤ℤ weight
      go n [] xs none in_rows = absurd (omega (arith, in_rows.1))
      go n (t ∷ ts) [] none in_rows = absurd (omega (arith, in_rows.1))
      go n (t ∷ ts) (x ∷ xs) none (zero, low, is) = subst (λ (p : Placed). p.task.priority_weight ≤ℤ weight) is (none 0 t (omega arith))
      go n (t ∷ ts) (x ∷ xs) none (suc k, low, is) = go (n + 1) ts xs (λ j e inside. none (suc j) e (omega arith)) (k, omega arith, is)

  placed_light : (dags : List DagRow) (runs : List Run) (placed : Placed) → NoneIsHeavier weight dags → Contains (placed_in dags runs) placed → placed.task.priority_weight ≤ℤ weight
  placed_light dags [] placed light has = absurd (omega (arith, has.1))
  placed_light dags (run ∷ runs) placed light has =
      ⊎_elim
      (λ (here : Contains (placed_of (tasks_of dags run.dag_id) run) placed). task_light (tasks_of dags run.dag_id) run placed (tasks_light dags run.dag_id light) here)
      (λ (more : Contains (placed_in dags runs) placed). placed_light dags runs placed light more)
      (Contains-append_cases (placed_of (tasks_of dags run.dag_id) run) (placed_in dags runs) placed has)

-- ---- the runs of instances
run_among : (dags : List DagRow) (runs : List Run) (placed : Placed) → Contains (placed_in dags runs) placed → Contains runs placed.run
run_among dags [] placed has = absurd (omega (arith, has.1))
run_among dags (run ∷ runs) placed has =
    ⊎_elim
    (λ (here : Contains (placed_of (tasks_of dags run.dag_id) run) placed). (0, omega arith, run_of_placed (tasks_of dags run.dag_id) run placed here))
    (λ (more : Contains (placed_in dags runs) placed). let rest = run_among dags runs placed more in (suc rest.0, omega (arith, rest.1), rest.2))
    (Contains-append_cases (placed_of (tasks_of dags run.dag_id) run) (placed_in dags runs) placed has)

abbrev numbers : List Run → List ℕ
numbers runs = map (λ run. run.number) runs

above : (number : ℕ) (seen rest : List Run) (other : Run) → AllByRecursion (λ n. nat_cmp number n ≡ Less) (numbers (seen ++ rest)) → Contains rest other → nat_cmp number other.number ≡ Less
above number [] [] other all has = absurd (omega (arith, has.1))
above number [] (run ∷ rest) other all (zero, low, is) = subst (λ (r : Run). nat_cmp number r.number ≡ Less) is all.0
above number [] (run ∷ rest) other all (suc k, low, is) = above number [] rest other all.1 (k, omega arith, is)
above number (run ∷ seen) rest other all has = above number seen rest other all.1 has

rises : (seen rest : List Run) (one other : Run) → IsStrictlySortedBy nat_cmp (numbers (seen ++ rest)) → Contains seen one → Contains rest other → nat_cmp one.number other.number ≡ Less
unfolding IsStrictlySortedBy
rises [] rest one other order has has_other = absurd (omega (arith, has.1))
rises (run ∷ seen) rest one other order (zero, low, is) has_other =
    subst (λ (r : Run). nat_cmp r.number other.number ≡ Less) is (above run.number seen rest other order.0 has_other)
rises (run ∷ seen) rest one other order (suc k, low, is) has_other = rises seen rest one other order.1 (k, omega arith, is) has_other

-- ---- the order
not_less : (one other : ℤ) → other ≤ℤ one → int_cmp one other ≡ Less → ⊥
not_less one other low less = let below : one <ℤ other = int_ranked one other Less (sym less) in clash_ℤ below low

behind : (a b c : Ordering) → (a ≡ Less → ⊥) → b ≡ Greater → is_lt (ordering_then a (ordering_then b c)) ≡ false
behind Less b c above is = absurd (above refl)
behind Equal b c above is = rw is refl
behind Greater b c above is = refl

behind_two : (a b c : Ordering) → (a ≡ Less → ⊥) → b ≡ Equal → c ≡ Greater → is_lt (ordering_then a (ordering_then b c)) ≡ false
behind_two Less b c above same is = absurd (above refl)
behind_two Equal b c above same is = rw (same, is) refl
behind_two Greater b c above same is = refl

stays_behind : (first other : Placed) → other.task.priority_weight ≤ℤ first.task.priority_weight → nat_cmp first.run.number other.run.number ≡ Less → comes_before other first ≡ false
stays_behind first other low less =
    behind (int_cmp first.task.priority_weight other.task.priority_weight) (nat_cmp other.run.number first.run.number) (nat_cmp other.place first.place)
    (not_less first.task.priority_weight other.task.priority_weight low)
    (nat_cmp_total.antisymm other.run.number first.run.number ∙ ap ordering_reverse less)

-- ---- the first so far, which stands before what is to come
no_lighter_before : (first other : Placed) → other.task.priority_weight ≤ℤ first.task.priority_weight → StandsBefore other.run.number other.place first → comes_before other first ≡ false
no_lighter_before first other low (inl earlier) =
    behind (int_cmp first.task.priority_weight other.task.priority_weight) (nat_cmp other.run.number first.run.number) (nat_cmp other.place first.place)
    (not_less first.task.priority_weight other.task.priority_weight low)
    (grind (arith, nat_tests, earlier))
no_lighter_before first other low (inr here) =
    behind_two (int_cmp first.task.priority_weight other.task.priority_weight) (nat_cmp other.run.number first.run.number) (nat_cmp other.place first.place)
    (not_less first.task.priority_weight other.task.priority_weight low)
    (grind (arith, nat_tests, here.0))
    (grind (arith, nat_tests, here.1))

-- an instance of a task that is no heavier leaves it the first
pub no_lighter_stays : (first : Option Placed) (next : Placed) → IsAsHeavy next.task.priority_weight first → IfSome first (StandsBefore next.run.number next.place) → first ≡ first_with is_claimable first next
no_lighter_stays None next heavy before = absurd heavy
no_lighter_stays (Some first) next heavy before =
    ⊎_elim
    (λ (may : is_claimable next ≡ true). rw (may, no_lighter_before first next heavy before) refl)
    (λ (not : is_claimable next ≡ false). rw not refl)
    (cases_Bool (is_claimable next))

stands_on : (number place : ℕ) (placed : Placed) → StandsBefore number place placed → StandsBefore number (place + 1) placed
stands_on number place placed (inl earlier) = inl earlier
stands_on number place placed (inr here) = inr (here.0, omega (arith, here.1))

-- it stands before what comes after the next one, once that has been seen too
pub with_stands : (first : Option Placed) (next : Placed) → IfSome first (StandsBefore next.run.number next.place) → IfSome (first_with is_claimable first next) (StandsBefore next.run.number (next.place + 1))
with_stands first next before = by (is_claimable next) first before
  where
    here : StandsBefore next.run.number (next.place + 1) next
    here = inr (refl, omega arith)

    either : (b : Bool) (first : Placed) → StandsBefore next.run.number next.place first → StandsBefore next.run.number (next.place + 1) (cond b next first)
    either true first before = here
    either false first before = stands_on next.run.number next.place first before

    by : (b : Bool) (first : Option Placed) → IfSome first (StandsBefore next.run.number next.place) → IfSome (cond b (Some (earlier first next)) first) (StandsBefore next.run.number (next.place + 1))
    by true None before = here
    by true (Some first) before = either (comes_before next first) first before
    by false None before = tt
    by false (Some first) before = stands_on next.run.number next.place first before

-- what comes first among the runs so far stands before those of the next run
pub earlier_runs : (dags : List DagRow) (runs seen rest : List Run) (run : Run) (first : Option Placed) → IsStrictlySortedBy nat_cmp (numbers runs) → seen ++ run ∷ rest ≡ holders_of runs → IsFirstOf is_claimable (placed_in dags seen) first → IfSome first (StandsBefore run.number 0)
earlier_runs dags runs seen rest run None order whole is = tt
earlier_runs dags runs seen rest run (Some first) order whole is =
    let holders : IsStrictlySortedBy nat_cmp (numbers (holders_of runs)) = order-filter (λ (run : Run). run.number) nat_cmp_total holds_any runs order in
    let sorted : IsStrictlySortedBy nat_cmp (numbers (seen ++ run ∷ rest)) = subst (λ (all : List Run). IsStrictlySortedBy nat_cmp (numbers all)) (sym whole) holders in
    let less : nat_cmp first.run.number run.number ≡ Less = rises seen (run ∷ rest) first.run run sorted (run_among dags seen first is.member) (0, omega arith, refl) in
    inl (below_from first.run.number run.number less)

-- what comes first among the runs so far, and is as heavy as any task, comes first among these and the later ones
pub heavy_first : (weight : ℤ) (dags : List DagRow) (seen rest : List Run) (first : Placed) → NoneIsHeavier weight dags → IsStrictlySortedBy nat_cmp (numbers (seen ++ rest)) → weight ≤ℤ first.task.priority_weight → IsFirst is_claimable (placed_in dags seen) first → IsFirst is_claimable (placed_in dags (seen ++ rest)) first
heavy_first weight dags seen rest first light order heavy is =
    let parted : placed_in dags (seen ++ rest) ≡ placed_in dags seen ++ placed_in dags rest = flat_map-append (λ (run : Run). placed_of (tasks_of dags run.dag_id) run) seen rest in
    rw parted (record {
      member = Contains-append_left (placed_in dags seen) (placed_in dags rest) first is.member;
      passes = is.passes;
      before_others = λ other has may.
          ⊎_elim
          (λ (here : Contains (placed_in dags seen) other). is.before_others other here may)
          (λ (later : Contains (placed_in dags rest) other).
          stays_behind first other
          (≤ℤ_past other.task.priority_weight weight first.task.priority_weight (placed_light weight dags rest other light later) heavy)
          (rises seen rest first.run other.run order (run_among dags seen first is.member) (run_among dags rest other later)))
          (Contains-append_cases (placed_in dags seen) (placed_in dags rest) other has);
    })

-- such an instance comes first among those of all runs, where it does among the first of those that hold slots
pub ends_early : (weight : ℤ) (dags : List DagRow) (runs seen rest : List Run) (first : Option Placed) → NoneIsHeavier weight dags → IsStrictlySortedBy nat_cmp (numbers runs) → seen ++ rest ≡ holders_of runs → IsAsHeavy weight first → IsFirstOf is_claimable (placed_in dags seen) first → IsFirstOf is_claimable (placed_in dags runs) first
ends_early weight dags runs seen rest None light order whole heavy is = absurd heavy
ends_early weight dags runs seen rest (Some first) light order whole heavy is =
    let holders : IsStrictlySortedBy nat_cmp (numbers (holders_of runs)) = order-filter (λ (run : Run). run.number) nat_cmp_total holds_any runs order in
    let sorted : IsStrictlySortedBy nat_cmp (numbers (seen ++ rest)) = subst (λ (all : List Run). IsStrictlySortedBy nat_cmp (numbers all)) (sym whole) holders in
    first_of_holders dags runs (Some first)
    (subst (λ (all : List Run). IsFirst is_claimable (placed_in dags all) first) whole (heavy_first weight dags seen rest first light sorted heavy is))
