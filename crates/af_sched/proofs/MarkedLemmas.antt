-- The rows of a state whose runs are marked or cleared, or of which one is taken out.
use Rattle.std.proofs.Common.{◌≡◌, ◌∙◌, refl, ap, ℕ, List, [], ◌∷◌, length, map, get_or, Bool, true, false, cond}
use Rattle.std.specs.Prelude.{Some, not}
use Rattle.std.specs.List.{AllByRecursion, enumerate_from}
use Rattle.std.specs.Option.{option_map_or}
use Rattle.std.proofs.lemmas.List.{length-map}
use Rattle.std.proofs.lemmas.List.Elements.{All-map}
use Rattle.std.proofs.lemmas.List.FromFn.{length-enumerate_from}
use Rattle.af_runs.specs.Clears.{admits, after_clear, cleared_run, run_after, with_cleared, with_cleared_run}
use Rattle.af_runs.specs.Marks.{marked_instance, marked_run, with_marked}
use Rattle.af_runs.specs.Runs.{is_numbered, without_run}
use Rattle.af_runs.specs.declared.mark.Mark.{Mark}
use Rattle.af_runs.specs.declared.run.Run.{Run}
use Rattle.af_runs.specs.declared.run_filter.RunFilter.{RunFilter}
use Rattle.af_runs.specs.declared.selection.Selection.{Selection}
use Rattle.af_sched.specs.Reports.{fault_at, report_fault}
use Rattle.af_sched.specs.State.{AreRows, IsWhole, StateRows}
use Rattle.af_sched.specs.declared.claim.Claim.{Claim}
use Rattle.af_sched.specs.declared.dag_row.DagRow.{DagRow}
use Rattle.af_sched.specs.declared.report_fault.ReportFault.TheVariants.{NoSuchInstance}
use Rattle.af_sched.proofs.NamedLemmas.{none_after}

-- ---- each run keeps its DAG, and loses no instance
module _ (f : Run → Run) (same : (run : Run) → (f run).dag_id ≡ run.dag_id) (long : (run : Run) → length (f run).instances ≡ length run.instances) where
  AreRows-map : (dags : List DagRow) (runs : List Run) → AreRows dags runs → AreRows dags (map f runs)
  AreRows-map dags runs rows = record {
    in_order = rows.in_order;
    few = rows.few;
    sound = rows.sound;
    whole = All-map (IsWhole dags) f runs (λ k d inside. rw (same (get_or runs k d), long (get_or runs k d)) (rows.whole k d inside));
  }

module _ (said : Mark) (t : ℕ) where
  same_marked : (b : Bool) (run : Run) → (cond b (marked_run said t run) run).dag_id ≡ run.dag_id
  same_marked true run = refl
  same_marked false run = refl

  long_marked : (b : Bool) (run : Run) → length (cond b (marked_run said t run) run).instances ≡ length run.instances
  long_marked true run = length-map run.instances (marked_instance said t)
  long_marked false run = refl

  pub AreRows-marked : (dags : List DagRow) (runs : List Run) (number : ℕ) → AreRows dags runs → AreRows dags (with_marked runs number said t)
  AreRows-marked dags runs number = AreRows-map (λ run. cond (is_numbered number run) (marked_run said t run) run) (λ run. same_marked (is_numbered number run) run) (λ run. long_marked (is_numbered number run) run) dags runs

module _ (selection : Selection) where
  same_cleared : (b : Bool) (run : Run) → (cond b (cleared_run selection run) run).dag_id ≡ run.dag_id
  same_cleared true run = refl
  same_cleared false run = refl

  long_cleared : (b : Bool) (run : Run) → length (cond b (cleared_run selection run) run).instances ≡ length run.instances
  long_cleared true run = length-map (enumerate_from 0 run.instances) (after_clear selection) ∙ length-enumerate_from 0 run.instances
  long_cleared false run = refl

  pub AreRows-cleared_run : (dags : List DagRow) (runs : List Run) (number : ℕ) → AreRows dags runs → AreRows dags (with_cleared_run runs number selection)
  AreRows-cleared_run dags runs number = AreRows-map (λ run. cond (is_numbered number run) (cleared_run selection run) run) (λ run. same_cleared (is_numbered number run) run) (λ run. long_cleared (is_numbered number run) run) dags runs

  pub AreRows-cleared : (dags : List DagRow) (runs : List Run) (asked : RunFilter) → AreRows dags runs → AreRows dags (with_cleared runs asked selection)
  AreRows-cleared dags runs asked = AreRows-map (run_after asked selection) (λ run. same_cleared (admits asked run) run) (λ run. long_cleared (admits asked run) run) dags runs

-- ---- a run that is taken out
others_step : (number : ℕ) (b : Bool) (run : Run) (runs : List Run) → is_numbered number run ≡ b → AllByRecursion (λ run. is_numbered number run ≡ false) runs → AllByRecursion (λ run. is_numbered number run ≡ false) (cond (not b) (run ∷ runs) runs)
others_step number true run runs is rest = rest
others_step number false run runs is rest = (is, rest)

others_left : (number : ℕ) (runs : List Run) → AllByRecursion (λ run. is_numbered number run ≡ false) (without_run runs number)
others_left number [] = tt
others_left number (run ∷ runs) = others_step number (is_numbered number run) run (without_run runs number) refl (others_left number runs)

pub none_reported : (state : StateRows) (claim : Claim) → report_fault (record state { runs = without_run state.runs claim.run_number }) claim ≡ Some NoSuchInstance
none_reported state claim =
    ap (λ o. option_map_or (fault_at claim) o (Some NoSuchInstance)) (none_after state.dags claim (without_run state.runs claim.run_number) (others_left claim.run_number state.runs))
