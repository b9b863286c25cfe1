-- A run is advanced to a later one with as many instances: no run loses one.
use Rattle.std.proofs.Common.{◌≡◌, ◌∙◌, ℕ, List, [], ◌∷◌, length, refl, sym, ap, subst, arith, suc, Bool, true, false, cond, ◌==◌, Some}
use Rattle.std.specs.Prelude.{All, IfSome, not}
use Rattle.std.specs.List.Sorted.{IsStrictlySortedBy}
use Rattle.std.specs.Ordering.{nat_cmp}
use Rattle.std.proofs.lemmas.Bool.Decides.{nat_tests}
use Rattle.std.proofs.lemmas.List.Elements.{All-cons, All-filter}
use Rattle.af_runs.specs.Runs.{AreRuns, advanced, is_numbered, run_at, with_advanced, without_run}
use Rattle.af_runs.specs.declared.run.Run.{Run}
use Rattle.af_sched.specs.Additions.{HasAsManyInstances}
use Rattle.af_sched.specs.State.{AreRows, IsWhole}
use Rattle.af_sched.specs.declared.dag_row.DagRow.{DagRow}
use Rattle.af_sched.proofs.BusyLemmas.{advance_none, turned_from}
use Rattle.af_sched.proofs.FillLemmas.{Above, numbers}

number_is : (n m : ℕ) → (n == m) ≡ true → n ≡ m
number_is n m same = grind (arith, nat_tests)

module _ (dags : List DagRow) (later : Run) where
  whole_step : (b : Bool) (run : Run) (runs : List Run) → is_numbered later.number run ≡ b → Above run.number runs → IfSome (cond b (Some run) (run_at runs later.number)) (λ old. length later.instances ≡ length old.instances) → (HasAsManyInstances runs later → All (IsWhole dags) (with_advanced runs later)) → IsWhole dags run → All (IsWhole dags) runs → All (IsWhole dags) (cond b (advanced run later) run ∷ with_advanced runs later)
  whole_step true run runs is above same rest here whole =
      let higher : Above later.number runs = subst (λ n. Above n runs) (number_is run.number later.number is) above in
      All-cons (IsWhole dags) (advanced run later) (with_advanced runs later) (here ∙ ap Some (sym same)) (rw (advance_none runs later (turned_from later.number runs higher)) whole)
  whole_step false run runs is above same rest here whole =
      All-cons (IsWhole dags) run (with_advanced runs later) here (rest same)

  whole_advanced : (runs : List Run) → IsStrictlySortedBy nat_cmp (numbers runs) → HasAsManyInstances runs later → All (IsWhole dags) runs → All (IsWhole dags) (with_advanced runs later)
  unfolding IsStrictlySortedBy
  whole_advanced [] order same whole = whole
  whole_advanced (run ∷ runs) order same whole =
      let tail : All (IsWhole dags) runs = λ j e low. whole (suc j) e (omega arith) in
      whole_step (is_numbered later.number run) run runs refl order.0 same (λ as_many. whole_advanced runs order.1 as_many tail) (whole 0 run (omega arith)) tail

pub AreRows-advanced : (dags : List DagRow) (runs : List Run) (next : ℕ) (later : Run) → AreRuns runs next → HasAsManyInstances runs later → AreRows dags runs → AreRows dags (with_advanced runs later)
AreRows-advanced dags runs next later are same rows = record {
  in_order = rows.in_order;
  few = rows.few;
  sound = rows.sound;
  whole = whole_advanced dags later runs are.in_order same rows.whole;
}

-- a run is taken out
pub AreRows-without : (dags : List DagRow) (runs : List Run) (number : ℕ) → AreRows dags runs → AreRows dags (without_run runs number)
AreRows-without dags runs number rows = record {
  in_order = rows.in_order;
  few = rows.few;
  sound = rows.sound;
  whole = All-filter (λ run. not (is_numbered number run)) (IsWhole dags) runs rows.whole;
}
