-- The order of instances is total, and going over them keeps the first that passes a test.
use Rattle.std.proofs.Common.{◌≡◌, ◌≢◌, ◌<◌, ◌+◌, ◌∙◌, ℕ, List, [], ◌∷◌, ◌++◌, length, map, get_or, take, sym, refl, ap, subst, arith, zero, suc, Bool, true, false, cond, ◌||◌, ⊎_elim, append_assoc, append-nil, add-one}
use Rattle.std.specs.Prelude.{Some, None, Option, Contains, find, flat_map, zip, min, is_some}
use Rattle.std.proofs.lemmas.Option.{none-some}
use Rattle.std.specs.List.{enumerate_from, list_any}
use Rattle.std.specs.Option.{option_or}
use Rattle.std.proofs.lemmas.List.Folds.{find-append}
use Rattle.std.specs.Ordering.{nat_cmp, int_cmp, is_lt}
use Rattle.std.specs.declared.cmp.Ordering.TheVariants.{Less, Equal, Greater}
use Rattle.std.specs.declared.cmp.Ordering.{Ordering}
use Rattle.std.specs.Cmp.{IsTotalOrder, then_total, on_total, back_total, nat_cmp_total, int_cmp_total}
use Rattle.std.proofs.lemmas.Bool.{cases_Bool, true≢false, false≢true}
use Rattle.std.proofs.lemmas.List.Elements.{Contains-append_left, Contains-append_cases, Contains-push}
use Rattle.af_graph.specs.declared.task_spec.TaskSpec.{TaskSpec}
use Rattle.af_runs.specs.declared.instance.Instance.{Instance}
use Rattle.af_runs.specs.declared.run.Run.{Run}
use Rattle.af_sched.specs.Placed.{Placed, placed_cmp, comes_before, placed_of, IsFirst, IsFirstOf, NonePasses}
use Rattle.af_sched.specs.Steps.{Continues, first_with}

-- ---- the order
pub placed_order : IsTotalOrder placed_cmp
placed_order =
    then_total (back_total (on_total (λ (placed : Placed). placed.task.priority_weight) int_cmp_total))
    (then_total (on_total (λ (placed : Placed). placed.run.number) nat_cmp_total) (on_total (λ (placed : Placed). placed.place) nat_cmp_total))

less_from : (o : Ordering) → is_lt o ≡ true → o ≡ Less
less_from Less e = refl
less_from Equal e = absurd (false≢true e)
less_from Greater e = absurd (false≢true e)

pub before_trans : (one two three : Placed) → comes_before one two ≡ true → comes_before two three ≡ true → comes_before one three ≡ true
before_trans one two three first second =
    ap is_lt (placed_order.trans one two three (less_from (placed_cmp one two) first) (less_from (placed_cmp two three) second))

not_less : (o : Ordering) → o ≡ Rattle.std.specs.Ordering.ordering_reverse o → is_lt o ≡ false
not_less Less e = absurd (cc)
not_less Equal e = refl
not_less Greater e = refl

pub before_itself : (one : Placed) → comes_before one one ≡ false
before_itself one = not_less (placed_cmp one one) (placed_order.antisymm one one)

-- ---- the first so far
contains_one : {X : Type 0} → (x y : X) → Contains (x ∷ []) y → x ≡ y
contains_one x y (zero, low, is) = is
contains_one x y (suc k, low, is) = absurd (omega (arith, low))

module _ (test : Placed → Bool) where
  none_with : (seen : List Placed) (next : Placed) → test next ≡ false → NonePasses test seen → NonePasses test (seen ++ next ∷ [])
  none_with seen next fails none other has =
      ⊎_elim (λ (in_seen : Contains seen other). none other in_seen) (λ (is_next : Contains (next ∷ []) other). subst (λ (p : Placed). test p ≡ false) (contains_one next other is_next) fails) (Contains-append_cases seen (next ∷ []) other has)

  kept_with : (seen : List Placed) (first next : Placed) → (test next ≡ true → comes_before next first ≡ false) → IsFirst test seen first → IsFirst test (seen ++ next ∷ []) first
  kept_with seen first next later is = record {
    member = Contains-append_left seen (next ∷ []) first is.member;
    passes = is.passes;
    before_others = λ other has passes.
        ⊎_elim (λ (in_seen : Contains seen other). is.before_others other in_seen passes) (λ (is_next : Contains (next ∷ []) other). let same = contains_one next other is_next in subst (λ (p : Placed). comes_before p first ≡ false) same (later (ap test same ∙ passes))) (Contains-append_cases seen (next ∷ []) other has);
  }

  new_first : (seen : List Placed) (next : Placed) → test next ≡ true → ((other : Placed) → Contains seen other → test other ≡ true → comes_before other next ≡ false) → IsFirst test (seen ++ next ∷ []) next
  new_first seen next passes before = record {
    member = Contains-push seen next;
    passes = passes;
    before_others = λ other has also.
        ⊎_elim (λ (in_seen : Contains seen other). before other in_seen also) (λ (is_next : Contains (next ∷ []) other). subst (λ (p : Placed). comes_before p next ≡ false) (contains_one next other is_next) (before_itself next)) (Contains-append_cases seen (next ∷ []) other has);
  }

  not_before : (other next first : Placed) → comes_before next first ≡ true → comes_before other first ≡ false → comes_before other next ≡ false
  not_before other next first less later =
      ⊎_elim (λ (is : comes_before other next ≡ true). absurd (true≢false (sym (before_trans other next first is less) ∙ later))) (λ (is : comes_before other next ≡ false). is) (cases_Bool (comes_before other next))

  pub IsFirstOf-with : (seen : List Placed) (first : Option Placed) (next : Placed) → IsFirstOf test seen first → IsFirstOf test (seen ++ next ∷ []) (first_with test first next)
  IsFirstOf-with seen None next none =
      ⊎_elim
      (λ (passes : test next ≡ true). rw passes (new_first seen next passes (λ other has also. absurd (true≢false (sym also ∙ none other has)))))
      (λ (fails : test next ≡ false). rw fails (none_with seen next fails none))
      (cases_Bool (test next))
  IsFirstOf-with seen (Some first) next is =
      ⊎_elim
      (λ (passes : test next ≡ true). rw passes (⊎_elim
      (λ (less : comes_before next first ≡ true). rw less (new_first seen next passes (λ other has also. not_before other next first less (is.before_others other has also))))
      (λ (later : comes_before next first ≡ false). rw later (kept_with seen first next (λ _. later) is))
      (cases_Bool (comes_before next first))))
      (λ (fails : test next ≡ false). rw fails (kept_with seen first next (λ passes. absurd (true≢false (sym passes ∙ fails))) is))
      (cases_Bool (test next))

  -- nothing has been seen
  -- more of which none passes
  pub skips_none : (more : List Placed) (one : Option Placed) → ((p : Placed) → Contains more p → test p ≡ false) → Continues test more one one
  skips_none more None fails seen none = λ other has. ⊎_elim (none other) (fails other) (Contains-append_cases seen more other has)
  skips_none more (Some first) fails seen is = record {
    member = Contains-append_left seen more first is.member;
    passes = is.passes;
    before_others = λ other has passes.
        ⊎_elim (λ (in_seen : Contains seen other). is.before_others other in_seen passes) (λ (in_more : Contains more other). absurd (false≢true (sym (fails other in_more) ∙ passes))) (Contains-append_cases seen more other has);
  }

  pub IsFirstOf-none : IsFirstOf test [] None
  IsFirstOf-none other has = absurd (omega (arith, has.1))

-- ---- the instances of a run
rows_get : (f : ℕ → TaskSpec → Instance → Placed) (n : ℕ) (tasks : List TaskSpec) (instances : List Instance) (i : ℕ) (d : Placed) (e : TaskSpec) (g : Instance) → i < length tasks → i < length instances → get_or (map (λ row. f row.0 row.1.0 row.1.1) (enumerate_from n (zip tasks instances))) i d ≡ f (n + i) (get_or tasks i e) (get_or instances i g)
rows_get f n [] instances i d e g first second = absurd (omega arith)
rows_get f n (t ∷ tasks) [] i d e g first second = absurd (omega arith)
rows_get f n (t ∷ tasks) (x ∷ xs) zero d e g first second =
    let same : n ≡ n + 0 = omega arith in ap (λ (k : ℕ). f k t x) same
rows_get f n (t ∷ tasks) (x ∷ xs) (suc i) d e g first second =
    let same : n + 1 + i ≡ n + suc i = omega arith in
    rows_get f (n + 1) tasks xs i d e g (omega arith) (omega arith) ∙ ap (λ (k : ℕ). f k (get_or tasks i e) (get_or xs i g)) same

rows_long : (f : ℕ × (TaskSpec × Instance) → Placed) (n : ℕ) (tasks : List TaskSpec) (instances : List Instance) → length (map f (enumerate_from n (zip tasks instances))) ≡ min (length tasks) (length instances)
rows_long f n [] instances = omega arith
rows_long f n (t ∷ tasks) [] = omega arith
rows_long f n (t ∷ tasks) (x ∷ xs) = omega (arith, rows_long f (n + 1) tasks xs)

pub length-placed_of : (tasks : List TaskSpec) (run : Run) → length (placed_of tasks run) ≡ min (length tasks) (length run.instances)
length-placed_of tasks run = rows_long (λ row. record { run = run; place = row.0; task = row.1.0; instance = row.1.1 }) 0 tasks run.instances

pub get_or-placed_of : (tasks : List TaskSpec) (run : Run) (place : ℕ) (d : Placed) (e : TaskSpec) (g : Instance) → place < length tasks → place < length run.instances → get_or (placed_of tasks run) place d ≡ record { run = run; place = place; task = get_or tasks place e; instance = get_or run.instances place g }
get_or-placed_of tasks run place d e g first second =
    rows_get (λ at task instance. record { run = run; place = at; task = task; instance = instance }) 0 tasks run.instances place d e g first second
    ∙ ap (λ (at : ℕ). record { run = run; place = at; task = get_or tasks place e; instance = get_or run.instances place g }) (let zero_plus : 0 + place ≡ place = omega arith in zero_plus)

-- a list that has a place has an element
pub some_at : {X : Type 0} (xs : List X) (k : ℕ) → k < length xs → X
some_at [] k inside = absurd (omega arith)
some_at (x ∷ xs) k inside = x

-- ---- lists of lists
module _ {X Y : Type 0} (g : X → List Y) where
  flat_map-suc : (xs : List X) (k : ℕ) (d : X) → k < length xs → flat_map g (take (suc k) xs) ≡ flat_map g (take k xs) ++ g (get_or xs k d)
  flat_map-suc [] k d inside = absurd (omega arith)
  flat_map-suc (x ∷ xs) zero d inside = append-nil (g x)
  flat_map-suc (x ∷ xs) (suc k) d inside =
      ap (λ (ys : List Y). g x ++ ys) (flat_map-suc xs k d (omega arith)) ∙ sym (append_assoc (g x) (flat_map g (take k xs)) (g (get_or xs k d)))

  pub flat_map-more : (xs : List X) (k : ℕ) (d : X) → k < length xs → flat_map g (take (k + 1) xs) ≡ flat_map g (take k xs) ++ g (get_or xs k d)
  flat_map-more xs k d inside = rw (add-one k) (flat_map-suc xs k d inside)

module _ {Y : Type 0} (test : Y → Bool) where
  pub find-first : (xs : List Y) (i : ℕ) (d : Y) → i < length xs → ((j : ℕ) (e : Y) → j < i → test (get_or xs j e) ≡ false) → test (get_or xs i d) ≡ true → find test xs ≡ Some (get_or xs i d)
  find-first [] i d inside before here = absurd (omega arith)
  find-first (x ∷ xs) zero d inside before here = rw here refl
  find-first (x ∷ xs) (suc i) d inside before here =
      rw (before 0 x (omega arith)) (find-first xs i d (omega arith) (λ j e low. before (suc j) e (omega arith)) here)

  pub find-append_none : (xs ys : List Y) → find test xs ≡ None → find test (xs ++ ys) ≡ find test ys
  find-append_none [] ys none = refl
  find-append_none (x ∷ xs) ys none =
      ⊎_elim (λ (is : test x ≡ true). let found : cond true (Some x) (find test xs) ≡ None = rw is at none in absurd (cc)) (λ (not : test x ≡ false). let rest : cond false (Some x) (find test xs) ≡ None = rw not at none in rw not (find-append_none xs ys rest)) (cases_Bool (test x))

  pub find-append_some : (xs ys : List Y) (y : Y) → find test xs ≡ Some y → find test (xs ++ ys) ≡ Some y
  find-append_some [] ys y found = absurd (cc)
  find-append_some (x ∷ xs) ys y found =
      ⊎_elim (λ (is : test x ≡ true). let here : cond true (Some x) (find test xs) ≡ Some y = rw is at found in rw is here) (λ (not : test x ≡ false). let rest : cond false (Some x) (find test xs) ≡ Some y = rw not at found in rw not (find-append_some xs ys y rest)) (cases_Bool (test x))

onward : {Y : Type 0} (test : Y → Bool) (xs ys zs : List Y) (y : Y) (o : Option Y) → find test xs ≡ o → (find test ys ≡ Some y → find test zs ≡ Some y) → find test (xs ++ ys) ≡ Some y → find test (xs ++ zs) ≡ Some y
onward test xs ys zs y None none more is =
    find-append_none test xs zs none ∙ more (sym (find-append_none test xs ys none) ∙ is)
onward test xs ys zs y (Some x) found more is =
    find-append_some test xs zs x found ∙ sym (find-append_some test xs ys x found) ∙ is

module _ {X Y : Type 0} (test : Y → Bool) (g : X → List Y) where
  find-rest : (zs : List X) (n : ℕ) (y : Y) → find test (flat_map g (take n zs)) ≡ Some y → find test (flat_map g zs) ≡ Some y
  find-rest [] zero y is = is
  find-rest [] (suc n) y is = is
  find-rest (z ∷ zs) zero y is = absurd (none-some y is)
  find-rest (z ∷ zs) (suc n) y is =
      onward test (g z) (flat_map g (take n zs)) (flat_map g zs) y (find test (g z)) refl (λ more. find-rest zs n y more) is

  -- where nothing is found before, what is found at a place is what is found
  pub find-flat_map : (xs : List X) (k : ℕ) (d : X) (o : Option Y) → k < length xs → find test (flat_map g (take k xs)) ≡ None → o ≡ find test (g (get_or xs k d)) → is_some o ≡ true → o ≡ find test (flat_map g xs)
  find-flat_map xs k d None inside none found some = absurd (false≢true some)
  find-flat_map xs k d (Some y) inside none found some =
      let so_far : find test (flat_map g (take (k + 1) xs)) ≡ Some y = ap (find test) (flat_map-more g xs k d inside) ∙ find-append_none test (flat_map g (take k xs)) (g (get_or xs k d)) none ∙ sym found in
      sym (find-rest xs (k + 1) y so_far)

  pub find-flat_map_none : (xs : List X) (k : ℕ) (d : X) (o : Option Y) → k < length xs → find test (flat_map g (take k xs)) ≡ None → o ≡ find test (g (get_or xs k d)) → is_some o ≡ false → find test (flat_map g (take (k + 1) xs)) ≡ None
  find-flat_map_none xs k d (Some y) inside none found missing = absurd (true≢false missing)
  find-flat_map_none xs k d None inside none found missing =
      ap (find test) (flat_map-more g xs k d inside) ∙ find-append_none test (flat_map g (take k xs)) (g (get_or xs k d)) none ∙ sym found

-- the instance at a place, of the task and the instance that stand there
pub placed_here : (tasks : List TaskSpec) (run : Run) (place : ℕ) (d : Placed) (task : TaskSpec) (instance : Instance) → place < length tasks → place < length run.instances → task ≡ get_or tasks place task → instance ≡ get_or run.instances place instance → get_or (placed_of tasks run) place d ≡ record { run = run; place = place; task = task; instance = instance }
placed_here tasks run place d task instance first second is_task is_instance =
    get_or-placed_of tasks run place d task instance first second
    ∙ sym (λ i. record { run = run; place = place; task = is_task i; instance = is_instance i })

-- ---- the runs and the states of instances
pub run_of_placed : (tasks : List TaskSpec) (run : Run) (placed : Placed) → Contains (placed_of tasks run) placed → run ≡ placed.run
run_of_placed tasks run placed has = go 0 tasks run.instances has
  where
    go : (n : ℕ) (ts : List TaskSpec) (xs : List Instance) → Contains (map (λ row. record { run = run; place = row.0; task = row.1.0; instance = row.1.1 }) (enumerate_from n (zip ts xs))) placed → run ≡ placed.run
    go n [] xs in_rows = absurd (omega (arith, in_rows.1))
    go n (t ∷ ts) [] in_rows = absurd (omega (arith, in_rows.1))
    go n (t ∷ ts) (x ∷ xs) (zero, low, is) = ap (λ (p : Placed). p.run) is
    go n (t ∷ ts) (x ∷ xs) (suc k, low, is) = go (n + 1) ts xs (k, omega arith, is)

-- where no instance of a run passes a test, none passes among them with their tasks
pub none_placed : (test : Instance → Bool) (tasks : List TaskSpec) (run : Run) → list_any test run.instances ≡ false → (placed : Placed) → Contains (placed_of tasks run) placed → test placed.instance ≡ false
none_placed test tasks run none placed has = go 0 tasks run.instances none has
  where
    neither : (a b : Bool) → (a || b) ≡ false → (a ≡ false) × (b ≡ false)
    neither true b fails = absurd (true≢false fails)
    neither false b fails = (refl, fails)

    go : (n : ℕ) (ts : List TaskSpec) (xs : List Instance) → list_any test xs ≡ false → Contains (map (λ row. record { run = run; place = row.0; task = row.1.0; instance = row.1.1 }) (enumerate_from n (zip ts xs))) placed → test placed.instance ≡ false
    go n [] xs fails in_rows = absurd (omega (arith, in_rows.1))
    go n (t ∷ ts) [] fails in_rows = absurd (omega (arith, in_rows.1))
    go n (t ∷ ts) (x ∷ xs) fails (zero, low, is) = ap (λ (p : Placed). test p.instance) (sym is) ∙ (neither (test x) (list_any test xs) fails).0
    go n (t ∷ ts) (x ∷ xs) fails (suc k, low, is) = go (n + 1) ts xs (neither (test x) (list_any test xs) fails).1 (k, omega arith, is)

-- ---- what is found where one row alone may have it
module _ {X Y : Type 0} (test : Y → Bool) (g : X → List Y) where
  pub find-absent : (ys : List Y) → ((y : Y) → Contains ys y → test y ≡ false) → find test ys ≡ None
  find-absent [] fails = refl
  find-absent (y ∷ ys) fails = rw (fails y (zero, omega arith, refl)) (find-absent ys (λ z has. fails z (suc has.0, omega (arith, has.1), has.2)))

  pub find-nowhere : (xs : List X) → ((j : ℕ) (e : X) → j < length xs → (y : Y) → Contains (g (get_or xs j e)) y → test y ≡ false) → find test (flat_map g xs) ≡ None
  find-nowhere [] fails = refl
  find-nowhere (x ∷ xs) fails =
      find-append test (g x) (flat_map g xs)
      ∙ (λ i. option_or (find-absent (g x) (fails 0 x (omega arith)) i) (find-nowhere xs (λ j e inside. fails (suc j) e (omega arith)) i))

  pub or_none : (o : Option Y) → option_or o None ≡ o
  or_none None = refl
  or_none (Some y) = refl

  pub find-alone : (xs : List X) (k : ℕ) (d : X) → k < length xs → ((j : ℕ) (e : X) → j < length xs → j ≢ k → (y : Y) → Contains (g (get_or xs j e)) y → test y ≡ false) → find test (g (get_or xs k d)) ≡ find test (flat_map g xs)
  find-alone [] k d inside fails = absurd (omega (arith, inside))
  find-alone (x ∷ xs) zero d inside fails =
      sym (find-append test (g x) (flat_map g xs) ∙ ap (option_or (find test (g x))) (find-nowhere xs (λ j e low. fails (suc j) e (omega arith) (λ same. absurd (omega (arith, same))))) ∙ or_none (find test (g x)))
  find-alone (x ∷ xs) (suc k) d inside fails =
      find-alone xs k d (omega arith) (λ j e low apart. fails (suc j) e (omega arith) (λ same. apart (omega (arith, same))))
      ∙ sym (find-append test (g x) (flat_map g xs) ∙ ap (λ (o : Option Y). option_or o (find test (flat_map g xs))) (find-absent (g x) (fails 0 x (omega arith) (λ same. absurd (omega (arith, same))))))
