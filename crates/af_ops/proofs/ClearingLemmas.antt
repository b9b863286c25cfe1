-- Instances that are cleared: where they do not all stand so already the state changes, and the runs of other DAGs do not.
use Rattle.std.proofs.Common.{◌≡◌, ◌≢◌, ◌∙◌, ◌&&◌, ℕ, Bool, true, false, cond, not, List, [], ◌∷◌, refl, sym, ap}
use Rattle.std.specs.Prelude.{Some, None, filter, nat_le, ◌||◌}
use Rattle.std.specs.Option.{option_map_or}
use Rattle.std.proofs.lemmas.Bool.{false≢true}
use Rattle.af_graph.specs.Graph.{same_name}
use Rattle.af_runs.specs.Clears.{admits, are_left_by, cleared_run, run_after, with_cleared}
use Rattle.af_runs.specs.Runs.{is_of}
use Rattle.af_runs.specs.declared.run.Run.{Run}
use Rattle.af_runs.specs.declared.run_filter.RunFilter.{RunFilter}
use Rattle.af_runs.specs.declared.selection.Selection.{Selection}
use Rattle.af_runs.proofs.ClearLemmas.{same_runs}
use Rattle.af_sched.specs.State.{StateRows}
use Rattle.af_ops.specs.declared.edit.Edit.TheVariants as edit
use Rattle.af_ops.specs.Edits.{next_by, with_clear}
use Rattle.af_ops.specs.Laws.{LeavesOthers}
use Rattle.af_ops.specs.Prepared.{IsExact}

pub cleared_apart : (state : StateRows) (asked : RunFilter) (selection : Selection) → are_left_by asked selection state.runs ≡ false → with_clear state asked selection ≢ state
cleared_apart state asked selection differ same =
    false≢true (sym differ ∙ same_runs selection asked state.runs (ap (λ (s : StateRows). s.runs) same))

-- the edit, or none
pub clear_exact : (dry left : Bool) (state : StateRows) (asked : RunFilter) (selection : Selection) → are_left_by asked selection state.runs ≡ left → IsExact state (cond (dry || left) edit.Nothing (edit.InstancesCleared asked selection))
clear_exact true left state asked selection is = ((λ no. refl), (λ same. refl))
clear_exact false true state asked selection is = ((λ no. refl), (λ same. refl))
clear_exact false false state asked selection is = ((λ no. cc), (λ same. absurd (cleared_apart state asked selection is same)))

pub clear_next : (b : Bool) (state : StateRows) (asked : RunFilter) (selection : Selection) → next_by (cond b edit.Nothing (edit.InstancesCleared asked selection)) state ≡ cond b None (Some (with_clear state asked selection))
clear_next true state asked selection = refl
clear_next false state asked selection = refl

-- ---- runs of other DAGs
not_admitted : (asked : RunFilter) (run : Run) → is_of asked.dag_id run ≡ false → admits asked run ≡ false
not_admitted asked run other =
    ap (λ (b : Bool). b && option_map_or (λ run_id. same_name run.run_id run_id) asked.run_id true && option_map_or (λ first. nat_le first run.logical_date) asked.start_date true && option_map_or (λ last. nat_le run.logical_date last) asked.end_date true) other

-- a run that is cleared is of the same DAG
same_dag : (admitted : Bool) (selection : Selection) (run : Run) → (cond admitted (cleared_run selection run) run).dag_id ≡ run.dag_id
same_dag true selection run = refl
same_dag false selection run = refl

kept_clear : (is : Bool) (asked : RunFilter) (selection : Selection) (run : Run) (new old : List Run) → is_of asked.dag_id run ≡ is → filter (λ r. not (is_of asked.dag_id r)) new ≡ filter (λ r. not (is_of asked.dag_id r)) old
    → filter (λ r. not (is_of asked.dag_id r)) (run_after asked selection run ∷ new) ≡ filter (λ r. not (is_of asked.dag_id r)) (run ∷ old)
kept_clear true asked selection run new old same rest =
    let after : is_of asked.dag_id (run_after asked selection run) ≡ true = ap (λ (id : List ℕ). same_name id asked.dag_id) (same_dag (admits asked run) selection run) ∙ same in
    rw (after, same) rest
kept_clear false asked selection run new old same rest =
    rw (not_admitted asked run same, same) (ap (λ rows. run ∷ rows) rest)

other_runs_left : (asked : RunFilter) (selection : Selection) (runs : List Run) → filter (λ run. not (is_of asked.dag_id run)) (with_cleared runs asked selection) ≡ filter (λ run. not (is_of asked.dag_id run)) runs
other_runs_left asked selection [] = refl
other_runs_left asked selection (run ∷ runs) =
    kept_clear (is_of asked.dag_id run) asked selection run (with_cleared runs asked selection) runs refl (other_runs_left asked selection runs)

pub clears_stay : (state : StateRows) (asked : RunFilter) (selection : Selection) → LeavesOthers asked.dag_id state (with_clear state asked selection)
clears_stay state asked selection = record { dags = refl; runs = other_runs_left asked selection state.runs; pools = refl; variables = refl }
