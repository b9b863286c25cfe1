-- The instance that a claim names is one of the run of the claim's number.
use Rattle.std.proofs.Common.{arith, ◌≡◌, ◌∙◌, ◌==◌, ◌&&◌, ℕ, List, [], ◌∷◌, refl, sym, ap, subst, Bool, true, false, cond}
use Rattle.std.specs.Prelude.{Contains, Option, Some, None, find}
use Rattle.std.specs.List.{AllByRecursion}
use Rattle.std.specs.List.Sorted.{IsStrictlySortedBy}
use Rattle.std.specs.Option.{option_map_or, option_or}
use Rattle.std.specs.Ordering.{nat_cmp}
use Rattle.std.proofs.lemmas.Bool.Decides.{nat_tests}
use Rattle.std.proofs.lemmas.List.Folds.{find-append}
use Rattle.af_graph.specs.Graph.{same_name}
use Rattle.af_runs.specs.Runs.{is_numbered, run_at}
use Rattle.af_runs.specs.declared.run.Run.{Run}
use Rattle.af_sched.specs.Placed.{Placed, placed_in, placed_of}
use Rattle.af_sched.specs.Reports.{is_claimed}
use Rattle.af_sched.specs.State.{tasks_of}
use Rattle.af_sched.specs.declared.claim.Claim.{Claim}
use Rattle.af_sched.specs.declared.dag_row.DagRow.{DagRow}
use Rattle.af_sched.proofs.BusyLemmas.{turned_from}
use Rattle.af_sched.proofs.FillLemmas.{Above, numbers}
use Rattle.af_sched.proofs.PlacedLemmas.{find-absent, or_none, run_of_placed}

number_is : (n m : ℕ) → (n == m) ≡ true → n ≡ m
number_is n m same = grind (arith, nat_tests)

module _ (dags : List DagRow) (claim : Claim) where
  abbrev pub named_in : Run → Option Placed
  named_in run = find (is_claimed claim) (placed_of (tasks_of dags run.dag_id) run)

  -- a claim names no instance of a run of another number
  of_other : (run : Run) → is_numbered claim.run_number run ≡ false → (placed : Placed) → Contains (placed_of (tasks_of dags run.dag_id) run) placed → is_claimed claim placed ≡ false
  of_other run other placed has =
      ap (λ (r : Run). (r.number == claim.run_number) && same_name placed.task.task_id claim.task_id) (sym (run_of_placed (tasks_of dags run.dag_id) run placed has))
      ∙ ap (λ (b : Bool). b && same_name placed.task.task_id claim.task_id) other

  none_named : (run : Run) → is_numbered claim.run_number run ≡ false → named_in run ≡ None
  none_named run other = find-absent (is_claimed claim) (λ (r : Run). placed_of (tasks_of dags r.dag_id) r) (placed_of (tasks_of dags run.dag_id) run) (of_other run other)

  pub none_after : (runs : List Run) → AllByRecursion (λ run. is_numbered claim.run_number run ≡ false) runs → find (is_claimed claim) (placed_in dags runs) ≡ None
  none_after [] others = refl
  none_after (run ∷ runs) others =
      find-append (is_claimed claim) (placed_of (tasks_of dags run.dag_id) run) (placed_in dags runs)
      ∙ (λ i. option_or (none_named run others.0 i) (none_after runs others.1 i))

  named_step : (b : Bool) (run : Run) (runs : List Run) → is_numbered claim.run_number run ≡ b → Above run.number runs → find (is_claimed claim) (placed_in dags runs) ≡ option_map_or named_in (run_at runs claim.run_number) None → option_or (named_in run) (find (is_claimed claim) (placed_in dags runs)) ≡ option_map_or named_in (cond b (Some run) (run_at runs claim.run_number)) None
  named_step true run runs is above rest =
      let higher : Above claim.run_number runs = subst (λ (n : ℕ). Above n runs) (number_is run.number claim.run_number is) above in
      ap (option_or (named_in run)) (none_after runs (turned_from claim.run_number runs higher)) ∙ or_none (is_claimed claim) (λ (r : Run). placed_of (tasks_of dags r.dag_id) r) (named_in run)
  named_step false run runs is above rest = ap (λ (o : Option Placed). option_or o (find (is_claimed claim) (placed_in dags runs))) (none_named run is) ∙ rest

  pub named_at : (runs : List Run) → IsStrictlySortedBy nat_cmp (numbers runs) → find (is_claimed claim) (placed_in dags runs) ≡ option_map_or named_in (run_at runs claim.run_number) None
  unfolding IsStrictlySortedBy
  named_at [] order = refl
  named_at (run ∷ runs) order =
      find-append (is_claimed claim) (placed_of (tasks_of dags run.dag_id) run) (placed_in dags runs)
      ∙ named_step (is_numbered claim.run_number run) run runs refl order.0 (named_at runs order.1)
