-- Changes leave another state, and stay at their DAG.
use Rattle.std.proofs.Common.{◌≡◌, ◌∙◌, ◌++◌, ℕ, Bool, true, false, cond, not, List, [], ◌∷◌, refl, sym, ap, subst}
use Rattle.std.specs.Prelude.{Some, None, Result, filter, map, if◌then◌else◌}
use Rattle.std.proofs.lemmas.Bool.{and_parts}
use Rattle.af_graph.specs.Graph.{same_name}
use Rattle.std.specs.Cmp.Lexicographic.{bytes_decides}
use Rattle.af_runs.specs.Marks.{marked_run}
use Rattle.af_runs.specs.Runs.{is_of, is_run, queued_run}
use Rattle.af_runs.specs.declared.mark.Mark.{Mark}
use Rattle.af_runs.specs.declared.run.Run.{Run}
use Rattle.af_sched.specs.State.{StateRows, is_of_id, with_paused}
use Rattle.af_sched.specs.declared.dag_row.DagRow.{DagRow}
use Rattle.af_ops.specs.declared.body_fault.BodyFault.{BodyFault}
use Rattle.af_ops.specs.declared.op.Op.TheVariants as op
use Rattle.af_ops.specs.declared.trigger.Trigger.{Trigger}
use Rattle.af_ops.specs.Effects.{Effect, new_run}
use Rattle.af_ops.specs.Laws.{ChangesLeaveAnotherState, ChangesStayAtTheirDag, LeavesOthers}
use Rattle.af_ops.proofs.BackfillLemmas.{backfills, backfills_apart, backfills_grow, grown_stays}
use Rattle.af_ops.proofs.EditLemmas.{paused_apart, run_apart}
use Rattle.af_ops.proofs.DeletingLemmas.{deleted_apart, deletes_stay}
use Rattle.af_ops.proofs.ClearingLemmas.{cleared_apart, clears_stay}
use Rattle.af_ops.proofs.MarkingLemmas.{marked_apart}
use Rattle.af_ops.proofs.PoolLemmas.{pools_differ}
use Rattle.af_ops.proofs.VariableLemmas.{variables_differ}
use Rattle.af_ops.proofs.ReadingLemmas.{readings_keep}
use Rattle.af_ops.proofs.StepLemmas.{Clears, Marks, Pauses, Triggers, clears_instances, clears_run, deletes, marks, none_some, pauses, some_same, triggers}

-- what is read is no change
pub unchanged : {X : Type 0} (effect : Effect) (next : StateRows) → effect.next ≡ None → effect.next ≡ Some next → X
unchanged effect next none changes = absurd (none_some (sym none ∙ changes))

pub changes_differ : ChangesLeaveAnotherState
changes_differ reads state op.Version now effect next is changes same = unchanged effect next (readings_keep reads state op.Version now effect refl is) changes
changes_differ reads state (op.ListDags asked) now effect next is changes same = unchanged effect next (readings_keep reads state (op.ListDags asked) now effect refl is) changes
changes_differ reads state (op.GetDag dag_id) now effect next is changes same = unchanged effect next (readings_keep reads state (op.GetDag dag_id) now effect refl is) changes
changes_differ reads state (op.PauseDag dag_id input) now effect next is changes same =
    let it = pauses state dag_id input effect next is changes in
    paused_apart dag_id it.is_paused state.dags it.row it.found it.differ (ap (λ (s : StateRows). s.dags) (sym it.next_is ∙ same))
changes_differ reads state (op.ListTasks dag_id) now effect next is changes same = unchanged effect next (readings_keep reads state (op.ListTasks dag_id) now effect refl is) changes
changes_differ reads state (op.ListRuns dag asked) now effect next is changes same = unchanged effect next (readings_keep reads state (op.ListRuns dag asked) now effect refl is) changes
changes_differ reads state (op.TriggerRun dag_id input) now effect next is changes same =
    let it = triggers state dag_id input now effect is in
    run_apart state (new_run it.row dag_id it.run_id it.date) (some_same (sym it.next_is ∙ changes) ∙ same)
changes_differ reads state (op.GetRun dag_id run_id) now effect next is changes same = unchanged effect next (readings_keep reads state (op.GetRun dag_id run_id) now effect refl is) changes
changes_differ reads state (op.MarkRun dag_id run_id input) now effect next is changes same =
    let it = marks state dag_id run_id input now effect next is changes in
    marked_apart state dag_id run_id it.run it.mark now it.found it.differ (sym it.next_is ∙ same)
changes_differ reads state (op.DeleteRun dag_id run_id) now effect next is changes same =
    let it = deletes state dag_id run_id effect next is changes in
    deleted_apart state dag_id run_id it.run it.found (sym it.next_is ∙ same)
changes_differ reads state (op.ClearRun dag_id run_id input) now effect next is changes same =
    let it = clears_run state dag_id run_id input effect next is changes in
    cleared_apart state it.asked it.selection it.differ (sym it.next_is ∙ same)
changes_differ reads state (op.ClearInstances dag_id input) now effect next is changes same =
    let it = clears_instances state dag_id input effect next is changes in
    cleared_apart state it.asked it.selection it.differ (sym it.next_is ∙ same)
changes_differ reads state (op.ListInstances dag_id run_id asked) now effect next is changes same = unchanged effect next (readings_keep reads state (op.ListInstances dag_id run_id asked) now effect refl is) changes
changes_differ reads state (op.GetInstance dag_id run_id task_id) now effect next is changes same = unchanged effect next (readings_keep reads state (op.GetInstance dag_id run_id task_id) now effect refl is) changes
changes_differ reads state (op.BackfillDag dag_id input) now effect next is changes same =
    absurd (backfills_apart state dag_id input effect next (backfills state dag_id input effect is) changes same)
changes_differ reads state (op.Pool it) now effect next is changes same = pools_differ it state next effect is changes same
changes_differ reads state (op.Variable it) now effect next is changes same = variables_differ it state next effect is changes same

-- a run that is marked is passed over, where its DAG's runs are
kept_run : (is : Bool) (dag_id run_id : List ℕ) (mark : Mark) (now : ℕ) (run : Run) (new old : List Run) → is_run dag_id run_id run ≡ is → filter (λ r. not (is_of dag_id r)) new ≡ filter (λ r. not (is_of dag_id r)) old
    → filter (λ r. not (is_of dag_id r)) (cond is (marked_run mark now run) run ∷ new) ≡ filter (λ r. not (is_of dag_id r)) (run ∷ old)
kept_run true dag_id run_id mark now run new old same rest =
    rw (and_parts (same_name run.dag_id dag_id) (same_name run.run_id run_id) same).0 rest
kept_run false dag_id run_id mark now run new old same rest = ap (λ rows. cond (not (is_of dag_id run)) (run ∷ rows) rows) rest

other_runs_stay : (dag_id run_id : List ℕ) (mark : Mark) (now : ℕ) (runs : List Run) → filter (λ run. not (is_of dag_id run)) (map (λ run. if is_run dag_id run_id run then marked_run mark now run else run) runs) ≡ filter (λ run. not (is_of dag_id run)) runs
other_runs_stay dag_id run_id mark now [] = refl
other_runs_stay dag_id run_id mark now (run ∷ runs) =
    kept_run (is_run dag_id run_id run) dag_id run_id mark now run (map (λ r. if is_run dag_id run_id r then marked_run mark now r else r) runs) runs refl (other_runs_stay dag_id run_id mark now runs)

marks_stay : (state : StateRows) (dag_id run_id : List ℕ) (now : ℕ) (next : StateRows) → Marks state dag_id run_id now next → LeavesOthers dag_id state next
marks_stay state dag_id run_id now next marks =
    rw (marks.next_is) (record {
      dags = refl;
      runs = other_runs_stay dag_id run_id marks.mark now state.runs;
      pools = refl;
      variables = refl;
    })

cleared_stay : (state : StateRows) (dag_id : List ℕ) (next : StateRows) → Clears state dag_id next → LeavesOthers dag_id state next
cleared_stay state dag_id next it =
    subst (λ (id : List ℕ). LeavesOthers id state next) it.of_dag (subst (λ (s : StateRows). LeavesOthers it.asked.dag_id state s) (sym it.next_is) (clears_stay state it.asked it.selection))

-- the other rows are passed over
kept_row : (is is_paused : Bool) (dag_id : List ℕ) (row : DagRow) (new old : List DagRow) → is_of_id dag_id row ≡ is → filter (λ r. not (is_of_id dag_id r)) new ≡ filter (λ r. not (is_of_id dag_id r)) old
    → filter (λ r. not (is_of_id dag_id r)) (cond is (record row { is_paused = is_paused }) row ∷ new) ≡ filter (λ r. not (is_of_id dag_id r)) (row ∷ old)
kept_row true is_paused dag_id row new old same rest = rw same rest
kept_row false is_paused dag_id row new old same rest = rw same (ap (λ rows. row ∷ rows) rest)

others_stay : (is_paused : Bool) (dag_id : List ℕ) (dags : List DagRow) → filter (λ row. not (is_of_id dag_id row)) (with_paused dags dag_id is_paused) ≡ filter (λ row. not (is_of_id dag_id row)) dags
others_stay is_paused dag_id [] = refl
others_stay is_paused dag_id (row ∷ dags) =
    kept_row (is_of_id dag_id row) is_paused dag_id row (with_paused dags dag_id is_paused) dags refl (others_stay is_paused dag_id dags)

pauses_stay : (state : StateRows) (dag_id : List ℕ) (next : StateRows) → Pauses state dag_id next → LeavesOthers dag_id state next
pauses_stay state dag_id next pauses =
    rw (pauses.next_is) (record {
      dags = others_stay pauses.is_paused dag_id state.dags;
      runs = refl;
      pools = refl;
      variables = refl;
    })

-- a row that is passed over at the end
filter_last : {X : Type 0} (p : X → Bool) (xs : List X) (x : X) → p x ≡ false → filter p (xs ++ x ∷ []) ≡ filter p xs
filter_last p [] x none = ap (λ (b : Bool). cond b (x ∷ []) []) none
filter_last p (y ∷ xs) x none = ap (λ rest. cond (p y) (y ∷ rest) rest) (filter_last p xs x none)

triggers_stay : (state : StateRows) (dag_id : List ℕ) (input : Result Trigger BodyFault) (now : ℕ) (effect : Effect) (next : StateRows) → Triggers state dag_id input now effect → effect.next ≡ Some next → LeavesOthers dag_id state next
triggers_stay state dag_id input now effect next it changes =
    subst (λ (s : StateRows). LeavesOthers dag_id state s) (some_same (sym it.next_is ∙ changes)) (record {
      dags = refl;
      runs = filter_last (λ run. not (is_of dag_id run)) state.runs (queued_run state.next_run (new_run it.row dag_id it.run_id it.date)) (ap not ((bytes_decides dag_id dag_id).1 refl));
      pools = refl;
      variables = refl;
    })

pub changes_stay : ChangesStayAtTheirDag
changes_stay reads state op.Version now effect next at is changes names = unchanged effect next (readings_keep reads state op.Version now effect refl is) changes
changes_stay reads state (op.ListDags asked) now effect next at is changes names = unchanged effect next (readings_keep reads state (op.ListDags asked) now effect refl is) changes
changes_stay reads state (op.GetDag dag_id) now effect next at is changes names = unchanged effect next (readings_keep reads state (op.GetDag dag_id) now effect refl is) changes
changes_stay reads state (op.PauseDag dag_id input) now effect next at is changes names =
    subst (λ (id : List ℕ). LeavesOthers id state next) (some_same names) (pauses_stay state dag_id next (pauses state dag_id input effect next is changes))
changes_stay reads state (op.ListTasks dag_id) now effect next at is changes names = unchanged effect next (readings_keep reads state (op.ListTasks dag_id) now effect refl is) changes
changes_stay reads state (op.ListRuns dag asked) now effect next at is changes names = unchanged effect next (readings_keep reads state (op.ListRuns dag asked) now effect refl is) changes
changes_stay reads state (op.TriggerRun dag_id input) now effect next at is changes names =
    subst (λ (id : List ℕ). LeavesOthers id state next) (some_same names) (triggers_stay state dag_id input now effect next (triggers state dag_id input now effect is) changes)
changes_stay reads state (op.GetRun dag_id run_id) now effect next at is changes names = unchanged effect next (readings_keep reads state (op.GetRun dag_id run_id) now effect refl is) changes
changes_stay reads state (op.MarkRun dag_id run_id input) now effect next at is changes names =
    subst (λ (id : List ℕ). LeavesOthers id state next) (some_same names) (marks_stay state dag_id run_id now next (marks state dag_id run_id input now effect next is changes))
changes_stay reads state (op.DeleteRun dag_id run_id) now effect next at is changes names =
    let it = deletes state dag_id run_id effect next is changes in
    subst (λ (id : List ℕ). LeavesOthers id state next) (some_same names) (subst (λ (s : StateRows). LeavesOthers dag_id state s) (sym it.next_is) (deletes_stay state dag_id run_id))
changes_stay reads state (op.ClearRun dag_id run_id input) now effect next at is changes names =
    subst (λ (id : List ℕ). LeavesOthers id state next) (some_same names) (cleared_stay state dag_id next (clears_run state dag_id run_id input effect next is changes))
changes_stay reads state (op.ClearInstances dag_id input) now effect next at is changes names =
    subst (λ (id : List ℕ). LeavesOthers id state next) (some_same names) (cleared_stay state dag_id next (clears_instances state dag_id input effect next is changes))
changes_stay reads state (op.ListInstances dag_id run_id asked) now effect next at is changes names = unchanged effect next (readings_keep reads state (op.ListInstances dag_id run_id asked) now effect refl is) changes
changes_stay reads state (op.GetInstance dag_id run_id task_id) now effect next at is changes names = unchanged effect next (readings_keep reads state (op.GetInstance dag_id run_id task_id) now effect refl is) changes
changes_stay reads state (op.BackfillDag dag_id input) now effect next at is changes names =
    subst (λ (id : List ℕ). LeavesOthers id state next) (some_same names) (grown_stays state next dag_id (backfills_grow state dag_id input effect next (backfills state dag_id input effect is) changes))
changes_stay reads state (op.Pool it) now effect next at is changes names = absurd (none_some names)
changes_stay reads state (op.Variable it) now effect next at is changes names = absurd (none_some names)
