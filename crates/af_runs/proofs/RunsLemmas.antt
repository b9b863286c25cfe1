-- The runs with what stands beside them: a run that is found, and one that changes.
use Rattle.std.proofs.Common.{◌≡◌, ◌≢◌, sym, ◌∙◌, ap, subst, ℕ, ◌<◌, ◌≤◌, List, map, length, get_or, set, Bool, true, false, ⊎_elim, arith}
use Rattle.std.specs.Prelude.{Option, Some, None, filter, is_some, MatchOption}
use Rattle.std.specs.List.{list_any}
use Rattle.std.specs.List.Sorted.{IsStrictlySortedBy}
use Rattle.std.specs.Ordering.{nat_cmp}
use Rattle.std.specs.Cmp.{nat_cmp_total}
use Rattle.std.proofs.lemmas.Bool.{cases_lt, false_from_ne_true}
use Rattle.std.proofs.lemmas.List.{get_or-set_same, get_or_default, length-map}
use Rattle.std.proofs.lemmas.Map.Keys.{apart_from_distinct}
use Rattle.af_names.proofs.OrderLemmas.{find-only, list_any-only, list_any-none, order-filter}
use Rattle.af_runs.specs.Busy.{holds_any, is_busy, with_number}
use Rattle.af_runs.specs.Chains.{no_row}
use Rattle.af_runs.specs.Codes.{by_ids}
use Rattle.af_runs.specs.Index.{CanKeep, HasRoomFor, IsIndex}
use Rattle.af_runs.specs.Places.{IsMetAt, IsMetNowhere, IsRunAt, IsRunNowhere}
use Rattle.af_runs.specs.Runs.{AreRuns, HasKeyOf, is_run, run_of, same_ids}
use Rattle.af_runs.specs.Wanted.{meets}
use Rattle.af_runs.specs.declared.index.Index.{Index}
use Rattle.af_runs.specs.declared.run.Run.{Run}
use Rattle.af_runs.specs.declared.wanted.Wanted.{Wanted}
use Rattle.af_runs.proofs.BusyLemmas.{numbers-set}
use Rattle.af_runs.proofs.ChainLemmas.{length-earlier_after}
use Rattle.af_runs.proofs.IndexLemmas.{numbers-few, length_set}
use Rattle.af_runs.proofs.RunLemmas.{same_ids_laws}

-- ---- one that is looked up
pub met_any : (wanted : Wanted) (runs : List Run) (found : Option ℕ) → MatchOption found (IsMetNowhere wanted runs) (IsMetAt wanted runs) → is_some found ≡ list_any (meets wanted) runs
met_any wanted runs (Some place) at = sym (list_any-only (meets wanted) runs place at.within at.here)
met_any wanted runs None nowhere = sym (list_any-none (meets wanted) runs nowhere.none)

-- two runs of the ids sought are of one id
module _ (dag_id run_id : List ℕ) (runs : List Run) (next : ℕ) (are : AreRuns runs next) where
  alike : (one other : Run) → is_run dag_id run_id one ≡ true → is_run dag_id run_id other ≡ true → same_ids one other ≡ true
  alike one other one_is other_is =
      let sought : Run = record one { dag_id = dag_id; run_id = run_id } in
      sym (same_ids_laws.congr sought one other one_is) ∙ other_is

  alone : (place : ℕ) → place < length runs → ((e : Run) → is_run dag_id run_id (get_or runs place e) ≡ true) → (j : ℕ) (e : Run) → j < length runs → j ≢ place → is_run dag_id run_id (get_or runs j e) ≡ false
  alone place within here j e inside apart =
      false_from_ne_true (is_run dag_id run_id (get_or runs j e)) (λ is.
      ⊎_elim
      (λ below. two (get_or runs j e) (get_or runs place e) is (here e) (apart_from_distinct same_ids runs j place e are.one_of_an_id below within))
      (λ above. two (get_or runs place e) (get_or runs j e) (here e) is (apart_from_distinct same_ids runs place j e are.one_of_an_id (omega arith) inside))
      (cases_lt j place))
    where
      two : (one other : Run) → is_run dag_id run_id one ≡ true → is_run dag_id run_id other ≡ true → same_ids one other ≡ false → ⊥
      two one other one_is other_is apart_ids = let both = alike one other one_is other_is in absurd (cc)

  pub found_there : (place : ℕ) (d : Run) → place < length runs → ((e : Run) → is_run dag_id run_id (get_or runs place e) ≡ true) → run_of runs dag_id run_id ≡ Some (get_or runs place d)
  found_there place d within here = find-only (is_run dag_id run_id) runs place d within here (alone place within here)

  pub run_placed : (wanted : Wanted) (found : Option ℕ) → MatchOption found (IsMetNowhere wanted runs) (IsMetAt wanted runs) → ((run : Run) → meets wanted run ≡ is_run dag_id run_id run) → MatchOption found (IsRunNowhere runs dag_id run_id) (IsRunAt runs dag_id run_id)
  run_placed wanted None nowhere same = record { none = λ j d inside. sym (same (get_or runs j d)) ∙ nowhere.none j d inside }
  run_placed wanted (Some place) at same =
      let here : (d : Run) → is_run dag_id run_id (get_or runs place d) ≡ true = λ d. sym (same (get_or runs place d)) ∙ at.here d in
      record { within = at.within; here = here; alone = alone place at.within here }

-- ---- one that changes, and keeps its number, its ids and its date
module _ (runs : List Run) (next : ℕ) (are : AreRuns runs next) (index : Index) (is : IsIndex runs index) where
  -- of the runs that pass a test
  module _ (p : Run → Bool) (numbers : List ℕ) (are_of : numbers ≡ map (λ (run : Run). run.number) (filter p runs)) where
    numbers_rise : IsStrictlySortedBy nat_cmp numbers
    numbers_rise = subst (IsStrictlySortedBy nat_cmp) (sym are_of) (order-filter (λ (run : Run). run.number) nat_cmp_total p runs are.in_order)

    numbers_fit : (place : ℕ) (run d : Run) → place < length runs → HasKeyOf (get_or runs place d) run → length (with_number run.number (p run) numbers) ≤ length runs
    numbers_fit place run d within same =
        let kept = ap (with_number run.number (p run)) are_of ∙ sym (numbers-set p runs place run d are.in_order within same.number) in
        omega (arith, ap length kept, numbers-few p (set runs place run), length_set runs place run)

  pub can_keep : (spare place : ℕ) (run d : Run) → HasRoomFor spare index → place < length runs → HasKeyOf (get_or runs place d) run → CanKeep run index
  can_keep spare place run d has within same =
      let chained : length index.ids.earlier.items ≡ length runs = ap length is.ids.earlier ∙ length-earlier_after no_row (map by_ids runs) ∙ length-map runs by_ids in
      let busy_few = numbers_fit is_busy index.busy.items is.busy place run d within same in
      let holders_few = numbers_fit holds_any index.holders.items is.holders place run d within same in
      record {
        busy_order = numbers_rise is_busy index.busy.items is.busy;
        busy_room = omega (arith, busy_few, chained, has.busy, index.ids.earlier.ok);
        holders_order = numbers_rise holds_any index.holders.items is.holders;
        holders_room = omega (arith, holders_few, chained, has.holders, index.ids.earlier.ok);
      }

  pub changed : (place : ℕ) (row run old e : Run) → place < length runs → run ≡ get_or (set runs place row) place e → HasKeyOf old row → old ≡ get_or runs place old → (d : Run) → HasKeyOf (get_or runs place d) run
  changed place row run old e within is_row same is_old d =
      subst (λ (r : Run). HasKeyOf (get_or runs place d) r) (sym (is_row ∙ get_or-set_same runs place row e within))
      (subst (λ (r : Run). HasKeyOf r row) (is_old ∙ get_or_default runs place old d within) same)

  pub changed_index : (place : ℕ) (row run e : Run) (after : Index) → place < length runs → run ≡ get_or (set runs place row) place e → IsIndex (set runs place run) after → IsIndex (set runs place row) after
  changed_index place row run e after within is_row indexed = subst (λ (r : Run). IsIndex (set runs place r) after) (is_row ∙ get_or-set_same runs place row e within) indexed
