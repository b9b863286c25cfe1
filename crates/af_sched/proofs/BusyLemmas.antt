-- Runs of which the busy ones are moved on, and to which others are added.
use Rattle.std.proofs.Common.{◌≡◌, ◌∙◌, ℕ, List, [], ◌∷◌, ◌++◌, length, map, fold, drop, get_or, refl, sym, ap, subst, arith, suc, Bool, true, false, cond, ◌==◌, Option, Some, None}
use Rattle.std.specs.Prelude.{All}
use Rattle.std.specs.List.{AllByRecursion}
use Rattle.std.specs.List.Sorted.{IsStrictlySortedBy}
use Rattle.std.specs.Ordering.{nat_cmp}
use Rattle.std.specs.declared.cmp.Ordering.TheVariants.{Less}
use Rattle.std.proofs.lemmas.Bool.Decides.{nat_tests}
use Rattle.std.proofs.lemmas.List.Elements.{All-cons}
use Rattle.af_pool.specs.declared.pool.Pool.{Pool}
use Rattle.af_runs.specs.Runs.{advanced, is_numbered, with_advanced}
use Rattle.af_runs.specs.declared.run.Run.{Run}
use Rattle.af_runs.specs.Busy.{busy_of, is_busy}
use Rattle.af_sched.specs.Moves.{MovesOn}
use Rattle.af_sched.specs.declared.dag_row.DagRow.{DagRow}
use Rattle.af_sched.proofs.FillLemmas.{Above, Idle, fill, numbers}
use Rattle.af_sched.proofs.FrameLemmas.{moves_fill}
use Rattle.af_sched.proofs.KeyLemmas.{Keeps, key_of, keeps_moved, numbers_same}

-- ---- those that are not busy, and where the busy ones stand
abbrev pub frame_of : List Run → List (Option Run)
frame_of runs = map (λ run. cond (is_busy run) None (Some run)) runs

frame_step : (b : Bool) (run : Run) (frame : List (Option Run)) → is_busy run ≡ b → Idle frame → Idle (cond b None (Some run) ∷ frame)
frame_step true run frame is idle = idle
frame_step false run frame is idle = (is, idle)

pub frame_idle : (runs : List Run) → Idle (frame_of runs)
frame_idle [] = tt
frame_idle (run ∷ runs) = frame_step (is_busy run) run (frame_of runs) refl (frame_idle runs)

fill_step : (b : Bool) (run : Run) (frame : List (Option Run)) (work all : List Run) → (added : List Run) → fill frame (work ++ added) ≡ all → fill (cond b None (Some run) ∷ frame) (cond b (run ∷ work) work ++ added) ≡ run ∷ all
fill_step true run frame work all added is = ap (λ (runs : List Run). run ∷ runs) is
fill_step false run frame work all added is = ap (λ (runs : List Run). run ∷ runs) is

pub fill_all : (runs added : List Run) → fill (frame_of runs) (busy_of runs ++ added) ≡ runs ++ added
fill_all [] added = refl
fill_all (run ∷ runs) added = fill_step (is_busy run) run (frame_of runs) (busy_of runs) (runs ++ added) added (fill_all runs added)

-- ---- runs whose numbers are above another
apart_from : (number : ℕ) (runs : List Run) → Above number runs → AllByRecursion (λ run. (number == run.number) ≡ false) runs
apart_from number [] above = tt
apart_from number (run ∷ runs) above = (apart number run.number above.0, apart_from number runs above.1)
  where
    apart : (a b : ℕ) → nat_cmp a b ≡ Less → (a == b) ≡ false
    apart a b less = grind (arith, nat_tests)

pub turned_from : (number : ℕ) (runs : List Run) → Above number runs → AllByRecursion (λ run. (run.number == number) ≡ false) runs
turned_from number [] above = tt
turned_from number (run ∷ runs) above = (apart number run.number above.0, turned_from number runs above.1)
  where
    apart : (a b : ℕ) → nat_cmp a b ≡ Less → (b == a) ≡ false
    apart a b less = grind (arith, nat_tests)

module _ (P : ℕ → Type 0) where
  kept_step : (b : Bool) (run : Run) (some : List Run) → P run.number → AllByRecursion P (numbers some) → AllByRecursion P (numbers (cond b (run ∷ some) some))
  kept_step true run some here rest = (here, rest)
  kept_step false run some here rest = rest

  all_busy : (runs : List Run) → AllByRecursion P (numbers runs) → AllByRecursion P (numbers (busy_of runs))
  all_busy [] all = tt
  all_busy (run ∷ runs) all = kept_step (is_busy run) run (busy_of runs) all.0 (all_busy runs all.1)

  joined_step : (b : Bool) (run : Run) (some added : List Run) → P run.number → AllByRecursion P (numbers (some ++ added)) → AllByRecursion P (numbers (cond b (run ∷ some) some ++ added))
  joined_step true run some added here rest = (here, rest)
  joined_step false run some added here rest = rest

  all_joined : (runs added : List Run) → AllByRecursion P (numbers (runs ++ added)) → AllByRecursion P (numbers (busy_of runs ++ added))
  all_joined [] added all = all
  all_joined (run ∷ runs) added all = joined_step (is_busy run) run (busy_of runs) added all.0 (all_joined runs added all.1)

  all_front : (runs added : List Run) → AllByRecursion P (numbers (runs ++ added)) → AllByRecursion P (numbers runs)
  all_front [] added all = tt
  all_front (run ∷ runs) added all = (all.0, all_front runs added all.1)

above_moved : (number : ℕ) (runs moved : List Run) → Above number runs → Keeps (busy_of runs) moved → Above number moved
above_moved number runs moved above keeps =
    subst (AllByRecursion (λ q. nat_cmp number q ≡ Less)) (sym (numbers_same (busy_of runs) moved keeps)) (all_busy (λ q. nat_cmp number q ≡ Less) runs above)

-- ---- runs advanced one after the other
pub advance_none : (runs : List Run) (later : Run) → AllByRecursion (λ run. (run.number == later.number) ≡ false) runs → with_advanced runs later ≡ runs
advance_none [] later none = refl
advance_none (run ∷ runs) later none = λ i. cond (none.0 i) (advanced run later) run ∷ advance_none runs later none.1 i

advance_past : (run : Run) (runs moved : List Run) → AllByRecursion (λ later. (run.number == later.number) ≡ false) moved → fold with_advanced (run ∷ runs) moved ≡ run ∷ fold with_advanced runs moved
advance_past run runs [] none = refl
advance_past run runs (later ∷ moved) none =
    (λ i. fold with_advanced (cond (none.0 i) (advanced run later) run ∷ with_advanced runs later) moved) ∙ advance_past run (with_advanced runs later) moved none.1

advance_one : (run later : Run) → key_of later ≡ key_of run → cond (is_numbered later.number run) (advanced run later) run ≡ later
advance_one run later same =
    (λ i. cond (number_is (λ j. (same j).number) i) (advanced run later) run)
    ∙ ap (λ (key : Run). record key { state = later.state; start_date = later.start_date; end_date = later.end_date; instances = later.instances }) (sym same)
  where
    equal : (n m : ℕ) → m ≡ n → (n == m) ≡ true
    equal n m is = grind (arith, nat_tests)

    number_is : later.number ≡ run.number → is_numbered later.number run ≡ true
    number_is is = equal run.number later.number is

advance_step : (b : Bool) (run : Run) (runs moved added : List Run) → Above run.number runs → ((more : List Run) → Keeps (busy_of runs) more → fold with_advanced runs more ++ added ≡ fill (frame_of runs) (more ++ added)) → Keeps (cond b (run ∷ busy_of runs) (busy_of runs)) moved → fold with_advanced (run ∷ runs) moved ++ added ≡ fill (cond b None (Some run) ∷ frame_of runs) (moved ++ added)
advance_step false run runs moved added above rest keeps =
    ap (λ (xs : List Run). xs ++ added) (advance_past run runs moved (apart_from run.number moved (above_moved run.number runs moved above keeps)))
    ∙ ap (λ (xs : List Run). run ∷ xs) (rest moved keeps)
advance_step true run runs [] added above rest keeps = absurd keeps
advance_step true run runs (later ∷ moved) added above rest keeps =
    let higher : Above later.number runs = subst (λ n. Above n runs) (λ i. (sym keeps.0 i).number) above in
    (λ i. fold with_advanced (advance_one run later keeps.0 i ∷ advance_none runs later (turned_from later.number runs higher) i) moved ++ added)
    ∙ ap (λ (xs : List Run). xs ++ added) (advance_past later runs moved (apart_from later.number moved (above_moved later.number runs moved higher keeps.1)))
    ∙ ap (λ (xs : List Run). later ∷ xs) (rest moved keeps.1)

pub advanced_fill : (runs moved added : List Run) → IsStrictlySortedBy nat_cmp (numbers runs) → Keeps (busy_of runs) moved → fold with_advanced runs moved ++ added ≡ fill (frame_of runs) (moved ++ added)
unfolding IsStrictlySortedBy
advanced_fill [] [] added order keeps = refl
advanced_fill [] (later ∷ moved) added order keeps = absurd keeps
advanced_fill (run ∷ runs) moved added order keeps =
    advance_step (is_busy run) run runs moved added order.0 (λ more kept. advanced_fill runs more added order.1 kept) keeps

-- ---- where nothing changes, the busy runs are the same and none is added
same_step : (b : Bool) (run : Run) (runs moved added : List Run) → ((more : List Run) → Keeps (busy_of runs) more → fill (frame_of runs) (more ++ added) ≡ runs → (more ≡ busy_of runs) × (added ≡ [])) → Keeps (cond b (run ∷ busy_of runs) (busy_of runs)) moved → fill (cond b None (Some run) ∷ frame_of runs) (moved ++ added) ≡ run ∷ runs → (moved ≡ cond b (run ∷ busy_of runs) (busy_of runs)) × (added ≡ [])
same_step false run runs moved added rest keeps is = rest moved keeps (ap (drop 1) is)
same_step true run runs [] added rest keeps is = absurd keeps
same_step true run runs (later ∷ moved) added rest keeps is =
    let more = rest moved keeps.1 (ap (drop 1) is) in
    (λ i. get_or (is i) 0 run ∷ more.0 i, more.1)

pub same_from : (runs moved added : List Run) → Keeps (busy_of runs) moved → fill (frame_of runs) (moved ++ added) ≡ runs → (moved ≡ busy_of runs) × (added ≡ [])
same_from [] [] added keeps is = (refl, is)
same_from [] (later ∷ moved) added keeps is = absurd keeps
same_from (run ∷ runs) moved added keeps is =
    same_step (is_busy run) run runs moved added (λ more kept same. same_from runs more added kept same) keeps is

-- ---- the busy ones of runs, and others after them
pub keeps_front : (xs ys us vs : List Run) → length us ≡ length xs → Keeps (xs ++ ys) (us ++ vs) → Keeps xs us
keeps_front [] ys [] vs long keeps = tt
keeps_front [] ys (u ∷ us) vs long keeps = absurd (omega (arith, long))
keeps_front (x ∷ xs) ys [] vs long keeps = absurd (omega (arith, long))
keeps_front (x ∷ xs) ys (u ∷ us) vs long keeps = (keeps.0, keeps_front xs ys us vs (omega (arith, long)) keeps.1)

order_step : (b : Bool) (run : Run) (some added : List Run) → Above run.number (some ++ added) → IsStrictlySortedBy nat_cmp (numbers (some ++ added)) → IsStrictlySortedBy nat_cmp (numbers (cond b (run ∷ some) some ++ added))
unfolding IsStrictlySortedBy
order_step true run some added above order = (above, order)
order_step false run some added above order = order

pub order_busy : (runs added : List Run) → IsStrictlySortedBy nat_cmp (numbers (runs ++ added)) → IsStrictlySortedBy nat_cmp (numbers (busy_of runs ++ added))
unfolding IsStrictlySortedBy
order_busy [] added order = order
order_busy (run ∷ runs) added order =
    order_step (is_busy run) run (busy_of runs) added (all_joined (λ q. nat_cmp run.number q ≡ Less) runs added order.0) (order_busy runs added order.1)

pub order_front : (runs added : List Run) → IsStrictlySortedBy nat_cmp (numbers (runs ++ added)) → IsStrictlySortedBy nat_cmp (numbers runs)
unfolding IsStrictlySortedBy
order_front [] added order = tt
order_front (run ∷ runs) added order = (all_front (λ q. nat_cmp run.number q ≡ Less) runs added order.0, order_front runs added order.1)

whole_step : (P : Run → Type 0) (b : Bool) (run : Run) (some added : List Run) → P run → All P (some ++ added) → All P (cond b (run ∷ some) some ++ added)
whole_step P true run some added here rest = All-cons P run (some ++ added) here rest
whole_step P false run some added here rest = rest

pub All-busy : (P : Run → Type 0) (runs added : List Run) → All P (runs ++ added) → All P (busy_of runs ++ added)
All-busy P [] added all = all
All-busy P (run ∷ runs) added all =
    whole_step P (is_busy run) run (busy_of runs) added (all 0 run (omega arith)) (All-busy P runs added (λ k d inside. all (suc k) d (omega arith)))

-- ---- the phases at all runs, from those at the busy ones
pub moves_all : (t : ℕ) (dags : List DagRow) (pools : List Pool) (runs added moved more : List Run) → IsStrictlySortedBy nat_cmp (numbers (runs ++ added)) → length moved ≡ length (busy_of runs) → MovesOn t dags pools (busy_of runs ++ added) (moved ++ more) → MovesOn t dags pools (runs ++ added) (fold with_advanced runs moved ++ more)
moves_all t dags pools runs added moved more order long moves =
    let keeps : Keeps (busy_of runs) moved = keeps_front (busy_of runs) added moved more long (keeps_moved t dags pools (busy_of runs ++ added) (moved ++ more) moves) in
    let all = fill_all runs added in
    subst (λ (xs : List Run). MovesOn t dags pools xs (fold with_advanced runs moved ++ more)) all
    (subst (MovesOn t dags pools (fill (frame_of runs) (busy_of runs ++ added))) (sym (advanced_fill runs moved more (order_front runs added order) keeps))
    (moves_fill t dags pools (frame_of runs) (frame_idle runs) (busy_of runs ++ added) (moved ++ more) (subst (λ (xs : List Run). IsStrictlySortedBy nat_cmp (numbers xs)) (sym all) order) moves))
