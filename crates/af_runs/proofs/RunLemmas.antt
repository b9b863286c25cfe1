-- The rows of the runs stay in order, numbered below the next number, apart in ids and dates, and few for each DAG.
use Rattle.std.proofs.Common.{◌≡◌, refl, sym, ◌∙◌, ap, subst, ℕ, ◌<◌, ◌≤◌, ◌+◌, zero, suc, List, [], ◌∷◌, ◌++◌, length, map, get_or, set, Bool, true, false, cond, ◌||◌, arith, ⊎_elim, ◌-◌, take, drop, take_all, length-drop}
use Rattle.std.proofs.Math.ListN.{take-append-drop}
use Rattle.std.proofs.lemmas.Bool.{cases_Bool}
use Rattle.std.proofs.lemmas.Bool.Decides.{nat_tests}
use Rattle.std.specs.Prelude.{filter, nat_le, ◌^◌, Option, Some, None, Result, Ok, Err, MatchResult, MatchOption, slice_set, IfOk, OnErr}
use Rattle.std.specs.Result.{result_ok}
use Rattle.std.specs.List.{list_any, remove, IsDistinct, AllByRecursion}
use Rattle.std.specs.List.Sorted.{IsStrictlySortedBy, IsSearchInRange, IsBinarySearchResult}
use Rattle.std.specs.Ordering.{nat_cmp, is_eq}
use Rattle.std.specs.declared.cmp.Ordering.TheVariants.{Less}
use Rattle.std.specs.Cmp.{IsEquivalence, unsigned_ties, and_equiv, on_equiv, back_equiv, nat_cmp_total, nat_eq_equiv}
use Rattle.std.specs.Cmp.Lexicographic.{nat_list_eq_equiv}
use Rattle.std.proofs.lemmas.List.Elements.{All-filter, All-set, All-push, All-weaker, All-nil, filter-append, filter_agree}
use Rattle.std.proofs.lemmas.Map.Keys.{IsDistinct-push}
use Rattle.std.proofs.Math.Seq.{map-set_same}
use Rattle.std.proofs.lemmas.List.{append-nil, append_assoc}
use Rattle.std.proofs.Math.ListN.{length-append}
use Rattle.af_runs.specs.declared.instance.Instance.{Instance}
use Rattle.af_runs.specs.declared.new_run.NewRun.{NewRun}
use Rattle.af_runs.specs.declared.run.Run.{Run}
use Rattle.af_runs.specs.declared.run_fault.RunFault.{RunFault}
use Rattle.af_runs.specs.declared.run_fault.RunFault.TheVariants.{RunExists, DateTaken, Full}
use Rattle.af_runs.specs.declared.run_state.RunState.{RunState}
use Rattle.af_runs.specs.Runs.{Adds, AreRuns, RunRows, SameRuns, is_of, is_run, is_dated, is_numbered, run_at, runs_of, is_full, add_fault, queued_run, same_ids, same_date, with_state, with_instance, advanced, with_advanced, without_run}
use Rattle.af_runs.specs.Places.{StandsAt, StandsNowhere}
use Rattle.af_names.proofs.OrderLemmas.{order-push, order-filter, filter-only, filter-none, map-only, map-none, find-only, find-none, search_alone, search_none, search_rises}

abbrev number_of : Run → ℕ
number_of run = run.number

-- ---- two runs of one id, or of one date
pub same_ids_laws : IsEquivalence same_ids
same_ids_laws = back_equiv (and_equiv (on_equiv (λ (run : Run). run.dag_id) nat_list_eq_equiv) (on_equiv (λ (run : Run). run.run_id) nat_list_eq_equiv))

same_date_laws : IsEquivalence same_date
same_date_laws = back_equiv (and_equiv (on_equiv (λ (run : Run). run.dag_id) nat_list_eq_equiv) (on_equiv (λ (run : Run). run.logical_date) nat_eq_equiv))

-- ---- a row replaced by one that a test cannot tell from it
module _ {X : Type 0} where
  all_like : (P Q : X → Type 0) → ((x : X) → P x → Q x) → (xs : List X) → AllByRecursion P xs → AllByRecursion Q xs
  all_like P Q like [] all = tt
  all_like P Q like (x ∷ xs) all = (like x all.0, all_like P Q like xs all.1)

  all_set : (P : X → Type 0) (xs : List X) (i : ℕ) (y d : X) → (P (get_or xs i d) → P y) → AllByRecursion P xs → AllByRecursion P (set xs i y)
  all_set P [] i y d same all = all
  all_set P (x ∷ xs) zero y d same all = (same all.0, all.1)
  all_set P (x ∷ xs) (suc i) y d same all = (all.0, all_set P xs i y d same all.1)

  distinct_set : (same : X → X → Bool) (xs : List X) (i : ℕ) (y d : X) → ((z : X) → same y z ≡ same (get_or xs i d) z) → ((z : X) → same z y ≡ same z (get_or xs i d)) → IsDistinct same xs → IsDistinct same (set xs i y)
  unfolding IsDistinct
  distinct_set same [] i y d left right distinct = distinct
  distinct_set same (x ∷ xs) zero y d left right distinct =
      (all_like (λ z. same x z ≡ false) (λ z. same y z ≡ false) (λ z apart. left z ∙ apart) xs distinct.0, distinct.1)
  distinct_set same (x ∷ xs) (suc i) y d left right distinct =
      (all_set (λ z. same x z ≡ false) xs i y d (λ apart. right x ∙ apart) distinct.0, distinct_set same xs i y d left right distinct.1)

  length-cond : (b : Bool) (x y : X) (xs : List X) → length (cond b (y ∷ xs) xs) ≡ length (cond b (x ∷ xs) xs)
  length-cond true x y xs = refl
  length-cond false x y xs = refl

  count_set : (p : X → Bool) (xs : List X) (i : ℕ) (y d : X) → p y ≡ p (get_or xs i d) → length (filter p (set xs i y)) ≡ length (filter p xs)
  count_set p [] i y d same = refl
  count_set p (x ∷ xs) zero y d same = rw same (length-cond (p x) x y (filter p xs))
  count_set p (x ∷ xs) (suc i) y d same =
      elim (p x) as (λ b. length (cond b (x ∷ filter p (set xs i y)) (filter p (set xs i y))) ≡ length (cond b (x ∷ filter p xs) (filter p xs))) [ true ↦ ap suc (count_set p xs i y d same) | false ↦ count_set p xs i y d same ]

  count_push : (p : X → Bool) (xs : List X) (x : X) → length (filter p (xs ++ x ∷ [])) ≤ length (filter p xs) + 1
  count_push p xs x =
      let more : (b : Bool) → length (cond b (x ∷ []) []) ≤ 1 = λ b. elim b as (λ v. length (cond v (x ∷ []) []) ≤ 1) [ true ↦ omega arith | false ↦ omega arith ] in
      rw (filter-append p xs (x ∷ []), length-append (filter p xs) (filter p (x ∷ []))) (omega (arith, more (p x)))

  count_push_other : (p : X → Bool) (xs : List X) (x : X) → p x ≡ false → length (filter p (xs ++ x ∷ [])) ≡ length (filter p xs)
  count_push_other p xs x other =
      rw (filter-append p xs (x ∷ []), other, append-nil (filter p xs)) refl

-- ---- the invariant
pub AreRuns-none : (next : ℕ) → AreRuns [] next
unfolding IsStrictlySortedBy IsDistinct
AreRuns-none next = record {
  in_order = tt;
  positive = All-nil (λ (run : Run). 0 < run.number);
  numbered = All-nil (λ (run : Run). run.number < next);
  one_of_an_id = tt;
  one_of_a_date = tt;
  bounded = λ dag_id. omega arith;
}

no_fault_parts : (a b c : Bool) (x y z : RunFault) → cond a (Some x) (cond b (Some y) (cond c (Some z) None)) ≡ None → (a ≡ false) × (b ≡ false) × (c ≡ false)
no_fault_parts true b c x y z none = absurd (cc)
no_fault_parts false true c x y z none = absurd (cc)
no_fault_parts false false true x y z none = absurd (cc)
no_fault_parts false false false x y z none = (refl, refl, refl)

or_left : (a b : Bool) → (a || b) ≡ false → a ≡ false
or_left true b none = absurd (cc)
or_left false b none = refl

or_right : (a b : Bool) → (a || b) ≡ false → b ≡ false
or_right true b none = absurd (cc)
or_right false b none = none

Less-from_lt : (a b : ℕ) → a < b → nat_cmp a b ≡ Less
Less-from_lt a b below = grind (arith, nat_tests)

Lt-from_not_le : (n : ℕ) → nat_le 65_536 n ≡ false → n < 65_536
Lt-from_not_le n few = grind (arith, nat_tests)

-- where a DAG has fewer runs than it may have, one more is not too many for any DAG
bounded_push : (runs : List Run) (run : Run) (dag_id : List ℕ) → length (runs_of runs dag_id) ≤ 65_536 → length (runs_of runs run.dag_id) < 65_536 → length (runs_of (runs ++ run ∷ []) dag_id) ≤ 65_536
bounded_push runs run dag_id bounded few =
    ⊎_elim
    (λ own.
    let same : runs_of runs dag_id ≡ runs_of runs run.dag_id = filter_agree (is_of dag_id) (is_of run.dag_id) (λ other. nat_list_eq_equiv.symm other.dag_id dag_id ∙ sym (nat_list_eq_equiv.congr run.dag_id dag_id other.dag_id own) ∙ nat_list_eq_equiv.symm run.dag_id other.dag_id) runs in
    let most : length (runs_of runs dag_id) < 65_536 = rw same few in
    let more = count_push (is_of dag_id) runs run in
    omega (arith, most, more))
    (λ other. rw (count_push_other (is_of dag_id) runs run other) bounded)
    (cases_Bool (is_of dag_id run))

-- a DAG has as many runs in two lists as it has in one after the other
pub count-append : (runs more : List Run) (dag_id : List ℕ) → length (runs_of (runs ++ more) dag_id) ≡ length (runs_of runs dag_id) + length (runs_of more dag_id)
count-append runs more dag_id = rw (filter-append (is_of dag_id) runs more) (length-append (runs_of runs dag_id) (runs_of more dag_id))

-- a DAG's runs among the first rows, and among the others
pub count_split : (runs : List Run) (listed : ℕ) (dag_id : List ℕ) → listed ≤ length runs → length (runs_of (take listed runs) dag_id) + length (runs_of (take (length runs - listed) (drop listed runs)) dag_id) ≡ length (runs_of runs dag_id)
count_split runs listed dag_id within =
    ap (λ (rest : List Run). length (runs_of (take listed runs) dag_id) + length (runs_of rest dag_id)) (take_all (length runs - listed) (drop listed runs) (omega (arith, length-drop listed runs)))
    ∙ sym (count-append (take listed runs) (drop listed runs) dag_id)
    ∙ ap (λ (rows : List Run). length (runs_of rows dag_id)) (take-append-drop listed runs)

-- a run that meets no fault, added last
pub AreRuns-push : (runs : List Run) (next : ℕ) (new : NewRun) → 0 < next → add_fault runs next new.dag_id new.run_id new.logical_date ≡ None → AreRuns runs next → AreRuns (runs ++ queued_run next new ∷ []) (next + 1)
AreRuns-push runs next new first no_fault are =
    let run : Run = queued_run next new in
    let parts = no_fault_parts (list_any (is_run new.dag_id new.run_id) runs) (list_any (is_dated new.dag_id new.logical_date) runs) (is_full runs next new.dag_id) RunExists DateTaken Full no_fault in
    record {
      in_order = order-push number_of nat_cmp_total runs run are.in_order (λ j d inside. Less-from_lt (get_or runs j d).number next (are.numbered j d inside));
      positive = All-push (λ (other : Run). 0 < other.number) runs run are.positive first;
      numbered = All-push (λ (other : Run). other.number < next + 1) runs run (All-weaker (λ (other : Run). other.number < next) (λ (other : Run). other.number < next + 1) (λ other below. omega arith) runs are.numbered) (omega arith);
      one_of_an_id = IsDistinct-push same_ids_laws runs run are.one_of_an_id parts.0;
      one_of_a_date = IsDistinct-push same_date_laws runs run are.one_of_a_date parts.1;
      bounded = λ dag_id. bounded_push runs run dag_id (are.bounded dag_id) (Lt-from_not_le (length (runs_of runs new.dag_id)) (or_left (nat_le 65_536 (length (runs_of runs new.dag_id))) (nat_le (2 ^ 64) next) parts.2));
    }

-- a DAG has at most as many runs as there are
few_of : (p : Run → Bool) (runs : List Run) → length (filter p runs) ≤ length runs
few_of p [] = omega arith
few_of p (run ∷ runs) =
    let rest = few_of p runs in
    ⊎_elim
    (λ (is : p run ≡ true). rw is (omega (arith, rest)))
    (λ (no : p run ≡ false). rw no (omega (arith, rest)))
    (cases_Bool (p run))

few_is : (n : ℕ) → n < 65_536 → false ≡ nat_le 65_536 n
few_is n few = sym (grind (arith, nat_tests))

pub few_together : (before added : List Run) (dag_id : List ℕ) → length (runs_of before dag_id) ≤ 65_536 → length added < 65_536 - length (runs_of before dag_id) → false ≡ nat_le 65_536 (length (runs_of (before ++ added) dag_id))
few_together before added dag_id most few =
    let own = few_of (is_of dag_id) added in
    few_is (length (runs_of (before ++ added) dag_id)) (omega (arith, count-append before added dag_id, own, most, few))

any_after : {X : Type 0} (p : X → Bool) (xs ys : List X) → list_any p (xs ++ ys) ≡ false → list_any p ys ≡ false
any_after p [] ys none = none
any_after p (x ∷ xs) ys none = any_after p xs ys (or_right (p x) (list_any p (xs ++ ys)) none)

few_after : (a b : ℕ) → nat_le 65_536 (a + b) ≡ false → nat_le 65_536 b ≡ false
few_after a b few = grind (arith, nat_tests)

or_none : (a b : Bool) → a ≡ false → b ≡ false → (a || b) ≡ false
or_none true b left right = absurd (cc)
or_none false b left right = right

none_of : (a b c : Bool) (x y z : RunFault) → a ≡ false → b ≡ false → c ≡ false → cond a (Some x) (cond b (Some y) (cond c (Some z) None)) ≡ None
none_of a b c x y z no_a no_b no_c = rw (no_a, no_b, no_c) refl

-- a run that meets no fault among others and these meets none among these
pub no_fault_after : (before rows : List Run) (next : ℕ) (dag_id run_id : List ℕ) (date : ℕ) → add_fault (before ++ rows) next dag_id run_id date ≡ None → add_fault rows next dag_id run_id date ≡ None
no_fault_after before rows next dag_id run_id date none =
    let parts = no_fault_parts (list_any (is_run dag_id run_id) (before ++ rows)) (list_any (is_dated dag_id date) (before ++ rows)) (is_full (before ++ rows) next dag_id) RunExists DateTaken Full none in
    let all_few : nat_le 65_536 (length (runs_of before dag_id) + length (runs_of rows dag_id)) ≡ false =
    ap (nat_le 65_536) (sym (count-append before rows dag_id)) ∙ or_left (nat_le 65_536 (length (runs_of (before ++ rows) dag_id))) (nat_le (2 ^ 64) next) parts.2 in
    none_of (list_any (is_run dag_id run_id) rows) (list_any (is_dated dag_id date) rows) (is_full rows next dag_id) RunExists DateTaken Full
    (any_after (is_run dag_id run_id) before rows parts.0)
    (any_after (is_dated dag_id date) before rows parts.1)
    (or_none (nat_le 65_536 (length (runs_of rows dag_id))) (nat_le (2 ^ 64) next)
    (few_after (length (runs_of before dag_id)) (length (runs_of rows dag_id)) all_few)
    (or_right (nat_le 65_536 (length (runs_of (before ++ rows) dag_id))) (nat_le (2 ^ 64) next) parts.2))

-- a run that meets no fault, if it is added to those after others
pub AreRuns-additions : {E : Type 0} (before : List Run) (old new : RunRows) (run : NewRun) (result : Result ℕ E) → add_fault (before ++ old.rows) old.next run.dag_id run.run_id run.logical_date ≡ None → IfOk result (Adds old new run) → IfOk result (λ number. 0 < number) → OnErr result (SameRuns old new) → AreRuns (before ++ old.rows) old.next → AreRuns (before ++ new.rows) new.next
AreRuns-additions before old new run (Ok number) no_fault adds above err are =
    let added = AreRuns-push (before ++ old.rows) old.next run (omega (arith, adds.next_number, above)) no_fault are in
    subst (λ (next : ℕ). AreRuns (before ++ new.rows) next) (sym adds.next)
    (subst (λ (rows : List Run). AreRuns rows (old.next + 1))
    (append_assoc before old.rows (queued_run old.next run ∷ []) ∙ (λ i. before ++ (old.rows ++ queued_run (sym adds.next_number i) run ∷ [])) ∙ ap (λ (rows : List Run). before ++ rows) (sym adds.row))
    added)
AreRuns-additions before old new run (Err fault) no_fault adds above err are =
    subst (λ (next : ℕ). AreRuns (before ++ new.rows) next) (sym err.next) (subst (λ (rows : List Run). AreRuns (before ++ rows) old.next) (sym err.rows) are)

-- a row replaced by one of the same number, ids and date
pub AreRuns-set : (runs : List Run) (next place : ℕ) (run d : Run) → run.number ≡ (get_or runs place d).number → run.dag_id ≡ (get_or runs place d).dag_id → run.run_id ≡ (get_or runs place d).run_id → run.logical_date ≡ (get_or runs place d).logical_date → place < length runs → AreRuns runs next → AreRuns (set runs place run) next
AreRuns-set runs next place run d number dag_id run_id date within are = record {
  in_order = rw (map-set_same number_of runs place run d number) are.in_order;
  positive = All-set (λ (other : Run). 0 < other.number) runs place run (rw number (are.positive place d within)) are.positive;
  numbered = All-set (λ (other : Run). other.number < next) runs place run (rw number (are.numbered place d within)) are.numbered;
  one_of_an_id = distinct_set same_ids runs place run d (λ z. rw (dag_id, run_id) refl) (λ z. rw (dag_id, run_id) refl) are.one_of_an_id;
  one_of_a_date = distinct_set same_date runs place run d (λ z. rw (dag_id, date) refl) (λ z. rw (dag_id, date) refl) are.one_of_a_date;
  bounded = λ id. rw (count_set (is_of id) runs place run d (rw dag_id refl)) (are.bounded id);
}

-- those that pass a test
apart_filter : (same : Run → Run → Bool) (p : Run → Bool) (runs : List Run) (run : Run) → AllByRecursion (λ z. same run z ≡ false) runs → AllByRecursion (λ z. same run z ≡ false) (filter p runs)
apart_filter same p [] run apart = tt
apart_filter same p (other ∷ runs) run apart = elim (p other) as (λ b. AllByRecursion (λ z. same run z ≡ false) (cond b (other ∷ filter p runs) (filter p runs))) [ true ↦ (apart.0, apart_filter same p runs run apart.1) | false ↦ apart_filter same p runs run apart.1 ]

distinct_filter : (same : Run → Run → Bool) (p : Run → Bool) (runs : List Run) → IsDistinct same runs → IsDistinct same (filter p runs)
unfolding IsDistinct
distinct_filter same p [] distinct = distinct
distinct_filter same p (run ∷ runs) distinct = elim (p run) as (λ b. IsDistinct same (cond b (run ∷ filter p runs) (filter p runs))) [ true ↦ (apart_filter same p runs run distinct.0, distinct_filter same p runs distinct.1) | false ↦ distinct_filter same p runs distinct.1 ]

fewer_case : (q : Run → Bool) (b c : Bool) (run : Run) (some more : List Run) → q run ≡ c → length (filter q some) ≤ length (filter q more) → length (filter q (cond b (run ∷ some) some)) ≤ length (cond c (run ∷ filter q more) (filter q more))
fewer_case q true true run some more is few = rw is (omega (arith, few))
fewer_case q true false run some more is few = rw is few
fewer_case q false true run some more is few = omega (arith, few)
fewer_case q false false run some more is few = few

few_filter : (p q : Run → Bool) (runs : List Run) → length (filter q (filter p runs)) ≤ length (filter q runs)
few_filter p q [] = omega arith
few_filter p q (run ∷ runs) = fewer_case q (p run) (q run) run (filter p runs) runs refl (few_filter p q runs)

pub AreRuns-filter : (p : Run → Bool) (runs : List Run) (next : ℕ) → AreRuns runs next → AreRuns (filter p runs) next
AreRuns-filter p runs next are = record {
  in_order = order-filter number_of nat_cmp_total p runs are.in_order;
  positive = All-filter p (λ (run : Run). 0 < run.number) runs are.positive;
  numbered = All-filter p (λ (run : Run). run.number < next) runs are.numbered;
  one_of_an_id = distinct_filter same_ids p runs are.one_of_an_id;
  one_of_a_date = distinct_filter same_date p runs are.one_of_a_date;
  bounded = λ dag_id. let few = few_filter p (is_of dag_id) runs in let most = are.bounded dag_id in omega (arith, few, most);
}

-- ---- where the row of a number stands
pub stands_from_search : (runs : List Run) (number : ℕ) (r : Result ℕ ℕ) → IsStrictlySortedBy nat_cmp (map number_of runs) → IsSearchInRange r (length runs) → IsBinarySearchResult (λ (run : Run). nat_cmp run.number number) runs r → MatchResult r (StandsAt runs number) (λ _. StandsNowhere runs number)
stands_from_search runs number (Ok place) in_order within found = record {
  within = within;
  here = λ d. unsigned_ties (get_or runs place d).number number ∙ ap is_eq (found d);
  alone = λ other d inside apart. unsigned_ties (get_or runs other d).number number ∙ search_alone number_of nat_cmp_total number runs place in_order within found other d inside apart;
}
stands_from_search runs number (Err place) in_order within ended =
    let parted = ended (search_rises number_of nat_cmp_total number runs in_order) in
    record { none = λ other d inside. unsigned_ties (get_or runs other d).number number ∙ search_none number_of nat_cmp_total number runs place parted other d inside }

pub stands_option : (runs : List Run) (number : ℕ) (r : Result ℕ ℕ) → MatchResult r (StandsAt runs number) (λ _. StandsNowhere runs number) → MatchOption (result_ok r) (StandsNowhere runs number) (StandsAt runs number)
stands_option runs number (Ok place) stands = stands
stands_option runs number (Err place) nowhere = nowhere

-- ---- what is found and changed there
module _ (runs : List Run) (number place : ℕ) (stands : StandsAt runs number place) where
  pub run_at-is : (d : Run) → run_at runs number ≡ Some (get_or runs place d)
  run_at-is d = find-only (is_numbered number) runs place d stands.within stands.here stands.alone

  pub with_state-is_set : (state : RunState) (start end : Option ℕ) (d : Run) → with_state runs number state start end ≡ set runs place (record (get_or runs place d) { state = state; start_date = start; end_date = end })
  with_state-is_set state start end d = map-only (is_numbered number) (λ (run : Run). record run { state = state; start_date = start; end_date = end }) runs place d stands.within stands.here stands.alone

  pub with_instance-is_set : (at : ℕ) (instance : Instance) (d : Run) → with_instance runs number at instance ≡ set runs place (record (get_or runs place d) { instances = slice_set (get_or runs place d).instances at instance })
  with_instance-is_set at instance d = map-only (is_numbered number) (λ (run : Run). record run { instances = slice_set run.instances at instance }) runs place d stands.within stands.here stands.alone

pub without_run-is_remove : (runs : List Run) (number place : ℕ) → StandsAt runs number place → without_run runs number ≡ remove runs place
without_run-is_remove runs number place stands = filter-only (is_numbered number) runs place stands.within stands.here stands.alone

pub without_run-same : (runs : List Run) (number : ℕ) → StandsNowhere runs number → without_run runs number ≡ runs
without_run-same runs number nowhere = filter-none (is_numbered number) runs nowhere.none

module _ (runs : List Run) (number : ℕ) (nowhere : StandsNowhere runs number) where
  pub run_at-none : run_at runs number ≡ None
  run_at-none = find-none (is_numbered number) runs nowhere.none

  pub with_state-same : (state : RunState) (start end : Option ℕ) → with_state runs number state start end ≡ runs
  with_state-same state start end = map-none (is_numbered number) (λ (run : Run). record run { state = state; start_date = start; end_date = end }) runs nowhere.none

  pub with_instance-same : (at : ℕ) (instance : Instance) → with_instance runs number at instance ≡ runs
  with_instance-same at instance = map-none (is_numbered number) (λ (run : Run). record run { instances = slice_set run.instances at instance }) runs nowhere.none

-- ---- what is advanced
pub with_advanced-is_set : (runs : List Run) (later : Run) (place : ℕ) → StandsAt runs later.number place → (d : Run) → with_advanced runs later ≡ set runs place (advanced (get_or runs place d) later)
with_advanced-is_set runs later place stands d = map-only (is_numbered later.number) (λ (run : Run). advanced run later) runs place d stands.within stands.here stands.alone

pub with_advanced-same : (runs : List Run) (later : Run) → StandsNowhere runs later.number → with_advanced runs later ≡ runs
with_advanced-same runs later nowhere = map-none (is_numbered later.number) (λ (run : Run). advanced run later) runs nowhere.none
