-- What each operation that changes something leaves.
use Rattle.std.proofs.Common.{◌≡◌, ◌∙◌, ℕ, Bool, true, false, List, get_or, refl, sym, ap}
use Rattle.std.specs.Prelude.{Option, Some, None, Result, Ok, Err, ok_or, unwrap_or, if◌then◌else◌, ◌||◌, ⊤}
use Rattle.af_graph.specs.declared.task_spec.TaskSpec.{TaskSpec}
use Rattle.af_base.specs.Readings.{◌>>=◌}
use Rattle.af_runs.specs.Clears.{are_left_by}
use Rattle.af_runs.specs.Marks.{is_marked}
use Rattle.af_runs.specs.Runs.{add_fault, run_of}
use Rattle.af_runs.specs.declared.mark.Mark.{Mark}
use Rattle.af_runs.specs.declared.run_filter.RunFilter.{RunFilter}
use Rattle.af_runs.specs.declared.selection.Selection.{Selection}
use Rattle.af_runs.specs.declared.run_fault.RunFault.{RunFault}
use Rattle.af_runs.specs.declared.run_fault.RunFault.TheVariants as run_fault
use Rattle.af_runs.specs.declared.run.Run.{Run}
use Rattle.af_sched.specs.State.{StateRows, with_paused}
use Rattle.af_sched.specs.State as sched
use Rattle.af_sched.specs.declared.dag_row.DagRow.{DagRow}
use Rattle.af_ops.specs.declared.answer.OpFault.{OpFault}
use Rattle.af_ops.specs.declared.answer.OpFault.TheVariants.{NoSuchDag, NoSuchRun}
use Rattle.af_ops.specs.declared.body_fault.BodyFault.{BodyFault}
use Rattle.af_ops.specs.declared.clear.Clear.{Clear}
use Rattle.af_ops.specs.declared.trigger.Trigger.{Trigger}
use Rattle.af_ops.specs.Edits.{with_clear, with_run}
use Rattle.af_ops.specs.Effects.{Effect, added_run, all_tasks, clearing, deleting, differs, filter_of, free_by, free_id, id_or, input_or, instances_cleared, known_run, known_tasks, marking, new_run, one_run, paused_dag, pausing, run_cleared, run_deleted, run_marked, selection_of, triggered_run, with_marked_run, without_run_of}
use Rattle.af_runs.proofs.MarkLemmas.{chosen_alone}
use Rattle.af_ops.specs.Laws.{ClearsTouchChosenAlone, DryRunsLeaveTheState}
use Rattle.af_ops.proofs.ListingLemmas.{next_in}

pub none_some : {X : Type 0} {x : X} → None ≡ Some x → ⊥
none_some same = cc

pub some_same : {X : Type 0} {x y : X} → Some x ≡ Some y → x ≡ y
some_same is = cc

-- a DAG that is paused, or not: it was found and stood otherwise, and this is the next state
pub record Pauses (state : StateRows) (dag_id : List ℕ) (next : StateRows) : Type 0 where
  pub is_paused : Bool
  pub row : DagRow
  pub found : sched.dag_of state.dags dag_id ≡ Some row
  pub differ : differs row is_paused ≡ true
  pub next_is : next ≡ record state { dags = with_paused state.dags dag_id is_paused }

pausing_next : (b : Bool) (state : StateRows) (dag_id : List ℕ) (is_paused : Bool) (row : DagRow) (next : StateRows) → sched.dag_of state.dags dag_id ≡ Some row → differs row is_paused ≡ b → (if b then Some (record state { dags = with_paused state.dags dag_id is_paused }) else None) ≡ Some next → Pauses state dag_id next
pausing_next false state dag_id is_paused row next found differ is = cc
pausing_next true state dag_id is_paused row next found differ is = record { is_paused = is_paused; row = row; found = found; differ = differ; next_is = cc }

pauses_found : (found : Option DagRow) (state : StateRows) (dag_id : List ℕ) (is_paused : Bool) (effect : Effect) (next : StateRows) → sched.dag_of state.dags dag_id ≡ found → (ok_or found NoSuchDag >>= (λ row. Ok (pausing state dag_id row is_paused))) ≡ Ok effect → effect.next ≡ Some next → Pauses state dag_id next
pauses_found None state dag_id is_paused effect next found is changes = cc
pauses_found (Some row) state dag_id is_paused effect next found is changes =
    pausing_next (differs row is_paused) state dag_id is_paused row next found refl
    (let same : pausing state dag_id row is_paused ≡ effect = cc in ap (λ (e : Effect). e.next) same ∙ changes)

pauses_input : (input : Result Bool OpFault) (state : StateRows) (dag_id : List ℕ) (effect : Effect) (next : StateRows) → (input >>= (λ is_paused. ok_or (sched.dag_of state.dags dag_id) NoSuchDag >>= (λ row. Ok (pausing state dag_id row is_paused)))) ≡ Ok effect → effect.next ≡ Some next → Pauses state dag_id next
pauses_input (Err fault) state dag_id effect next is changes = cc
pauses_input (Ok is_paused) state dag_id effect next is changes =
    pauses_found (sched.dag_of state.dags dag_id) state dag_id is_paused effect next refl is changes

-- a run that is triggered: this was asked for, its DAG was found, and this is the next state
pub record Triggers (state : StateRows) (dag_id : List ℕ) (input : Result Trigger BodyFault) (now : ℕ) (effect : Effect) : Type 0 where
  pub asked : Trigger
  pub row : DagRow
  pub date : ℕ
  pub run_id : List ℕ
  pub read : input ≡ Ok asked
  pub dated : date ≡ unwrap_or asked.logical_date now
  pub named : run_id ≡ id_or asked.dag_run_id date
  pub found : sched.dag_of state.dags dag_id ≡ Some row
  pub next_is : effect.next ≡ Some (with_run state (new_run row dag_id run_id date))

-- an id that is free is the one that was asked for
free_same : (run_id found : List ℕ) (date : ℕ) (fault : Option RunFault) → free_by run_id date fault ≡ Ok found → found ≡ run_id
free_same run_id found date None is = cc
free_same run_id found date (Some run_fault.RunExists) is = cc
free_same run_id found date (Some run_fault.DateTaken) is = cc
free_same run_id found date (Some run_fault.Full) is = cc
free_same run_id found date (Some run_fault.OutOfMemory) is = cc

triggers_free : (free : Result (List ℕ) OpFault) (state : StateRows) (dag_id : List ℕ) (asked : Trigger) (now : ℕ) (row : DagRow) (effect : Effect)
    → ((run_id : List ℕ) → free ≡ Ok run_id → run_id ≡ id_or asked.dag_run_id (unwrap_or asked.logical_date now)) → sched.dag_of state.dags dag_id ≡ Some row
    → (free >>= (λ run_id. Ok (added_run state (new_run row dag_id run_id (unwrap_or asked.logical_date now))))) ≡ Ok effect → Triggers state dag_id (Ok asked) now effect
unfolding next_in
triggers_free (Err fault) state dag_id asked now row effect named found is = cc
triggers_free (Ok run_id) state dag_id asked now row effect named found is = record {
  asked = asked;
  row = row;
  date = unwrap_or asked.logical_date now;
  run_id = run_id;
  read = refl;
  dated = refl;
  named = named run_id refl;
  found = found;
  next_is = ap (λ (r : Result Effect OpFault). next_in r) (sym is);
}

triggers_found : (found : Option DagRow) (state : StateRows) (dag_id : List ℕ) (asked : Trigger) (now : ℕ) (effect : Effect) → sched.dag_of state.dags dag_id ≡ found
    → (ok_or found NoSuchDag >>= (λ row. free_id state dag_id (id_or asked.dag_run_id (unwrap_or asked.logical_date now)) (unwrap_or asked.logical_date now) >>= (λ run_id. Ok (added_run state (new_run row dag_id run_id (unwrap_or asked.logical_date now)))))) ≡ Ok effect
    → Triggers state dag_id (Ok asked) now effect
triggers_found None state dag_id asked now effect found is = cc
triggers_found (Some row) state dag_id asked now effect found is =
    let date = unwrap_or asked.logical_date now in
    triggers_free (free_id state dag_id (id_or asked.dag_run_id date) date) state dag_id asked now row effect
    (λ run_id free. free_same (id_or asked.dag_run_id date) run_id date (add_fault state.runs state.next_run dag_id (id_or asked.dag_run_id date) date) free) found is

pub triggers : (state : StateRows) (dag_id : List ℕ) (input : Result Trigger BodyFault) (now : ℕ) (effect : Effect) → triggered_run state dag_id input now ≡ Ok effect → Triggers state dag_id input now effect
triggers state dag_id (Err why) now effect is = cc
triggers state dag_id (Ok asked) now effect is = triggers_found (sched.dag_of state.dags dag_id) state dag_id asked now effect refl is

-- a run that is marked: it was found and stood otherwise, and this is the next state
pub record Marks (state : StateRows) (dag_id run_id : List ℕ) (now : ℕ) (next : StateRows) : Type 0 where
  pub mark : Mark
  pub run : Run
  pub found : run_of state.runs dag_id run_id ≡ Some run
  pub differ : is_marked mark run ≡ false
  pub next_is : next ≡ with_marked_run state dag_id run_id mark now

marking_next : (b : Bool) (state : StateRows) (dag_id run_id : List ℕ) (run : Run) (mark : Mark) (now : ℕ) (next : StateRows) → run_of state.runs dag_id run_id ≡ Some run → is_marked mark run ≡ b → (if b then None else Some (with_marked_run state dag_id run_id mark now)) ≡ Some next → Marks state dag_id run_id now next
marking_next true state dag_id run_id run mark now next found differ is = cc
marking_next false state dag_id run_id run mark now next found differ is = record { mark = mark; run = run; found = found; differ = differ; next_is = cc }

marks_found : (dag : Option DagRow) (found : Option Run) (state : StateRows) (dag_id run_id : List ℕ) (mark : Mark) (now : ℕ) (effect : Effect) (next : StateRows) → run_of state.runs dag_id run_id ≡ found → (ok_or dag NoSuchDag >>= (λ row. ok_or found NoSuchRun >>= (λ run. Ok (marking state dag_id run_id run mark now)))) ≡ Ok effect → effect.next ≡ Some next → Marks state dag_id run_id now next
marks_found None found state dag_id run_id mark now effect next at is changes = cc
marks_found (Some row) None state dag_id run_id mark now effect next at is changes = cc
marks_found (Some row) (Some run) state dag_id run_id mark now effect next at is changes =
    marking_next (is_marked mark run) state dag_id run_id run mark now next at refl
    (let same : marking state dag_id run_id run mark now ≡ effect = cc in ap (λ (e : Effect). e.next) same ∙ changes)

pub pauses : (state : StateRows) (dag_id : List ℕ) (input : Result Bool BodyFault) (effect : Effect) (next : StateRows) → paused_dag state dag_id input ≡ Ok effect → effect.next ≡ Some next → Pauses state dag_id next
pauses state dag_id input effect next is changes = pauses_input (input_or input) state dag_id effect next is changes

pub marks : (state : StateRows) (dag_id run_id : List ℕ) (input : Result Mark BodyFault) (now : ℕ) (effect : Effect) (next : StateRows) → run_marked state dag_id run_id input now ≡ Ok effect → effect.next ≡ Some next → Marks state dag_id run_id now next
marks state dag_id run_id (Err why) now effect next is changes = cc
marks state dag_id run_id (Ok mark) now effect next is changes =
    marks_found (sched.dag_of state.dags dag_id) (run_of state.runs dag_id run_id) state dag_id run_id mark now effect next refl is changes

-- a run that is deleted: it was found, and this is the next state
pub record Deletes (state : StateRows) (dag_id run_id : List ℕ) (next : StateRows) : Type 0 where
  pub run : Run
  pub found : run_of state.runs dag_id run_id ≡ Some run
  pub next_is : next ≡ without_run_of state dag_id run_id

delete_found : (dag : Option DagRow) (found : Option Run) (state : StateRows) (dag_id run_id : List ℕ) (effect : Effect) (next : StateRows) → run_of state.runs dag_id run_id ≡ found
    → (ok_or dag NoSuchDag >>= (λ row. ok_or found NoSuchRun >>= (λ run. Ok (deleting state dag_id run_id)))) ≡ Ok effect → effect.next ≡ Some next → Deletes state dag_id run_id next
delete_found None found state dag_id run_id effect next at is changes = cc
delete_found (Some row) None state dag_id run_id effect next at is changes = cc
delete_found (Some row) (Some run) state dag_id run_id effect next at is changes = record {
  run = run;
  found = at;
  next_is = some_same (sym changes ∙ (let same : deleting state dag_id run_id ≡ effect = cc in ap (λ (e : Effect). e.next) (sym same)));
}

pub deletes : (state : StateRows) (dag_id run_id : List ℕ) (effect : Effect) (next : StateRows) → run_deleted state dag_id run_id ≡ Ok effect → effect.next ≡ Some next → Deletes state dag_id run_id next
deletes state dag_id run_id effect next is changes =
    delete_found (sched.dag_of state.dags dag_id) (run_of state.runs dag_id run_id) state dag_id run_id effect next refl is changes

-- instances that are cleared: this was asked for, and not as a dry run, they did not all stand so already, and this is the next state
pub record Clears (state : StateRows) (dag_id : List ℕ) (next : StateRows) : Type 0 where
  pub asked : RunFilter
  pub selection : Selection
  pub of_dag : asked.dag_id ≡ dag_id
  pub differ : are_left_by asked selection state.runs ≡ false
  pub next_is : next ≡ with_clear state asked selection

clearing_next : (dry left : Bool) (state : StateRows) (asked : RunFilter) (selection : Selection) (next : StateRows) → are_left_by asked selection state.runs ≡ left → (if dry || left then None else Some (with_clear state asked selection)) ≡ Some next → Clears state asked.dag_id next
clearing_next true left state asked selection next differ is = cc
clearing_next false true state asked selection next differ is = cc
clearing_next false false state asked selection next differ is = record { asked = asked; selection = selection; of_dag = refl; differ = differ; next_is = cc }

clearing_is : (dry : Bool) (state : StateRows) (tasks : List TaskSpec) (asked : RunFilter) (selection : Selection) (effect : Effect) (next : StateRows) → ◌≡◌ {A = Result Effect OpFault} (Ok (clearing state tasks asked selection dry)) (Ok effect) → effect.next ≡ Some next → Clears state asked.dag_id next
clearing_is dry state tasks asked selection effect next is changes =
    clearing_next dry (are_left_by asked selection state.runs) state asked selection next refl
    (let same : clearing state tasks asked selection dry ≡ effect = cc in ap (λ (e : Effect). e.next) same ∙ changes)

run_clear_found : (dag : Option DagRow) (found : Option Run) (state : StateRows) (dag_id run_id : List ℕ) (dry : Bool) (effect : Effect) (next : StateRows)
    → (ok_or dag NoSuchDag >>= (λ row. ok_or found NoSuchRun >>= (λ run. Ok (clearing state row.dag.tasks (one_run dag_id run_id) (all_tasks row.dag.tasks) dry)))) ≡ Ok effect → effect.next ≡ Some next → Clears state dag_id next
run_clear_found None found state dag_id run_id dry effect next is changes = cc
run_clear_found (Some row) None state dag_id run_id dry effect next is changes = cc
run_clear_found (Some row) (Some run) state dag_id run_id dry effect next is changes =
    clearing_is dry state row.dag.tasks (one_run dag_id run_id) (all_tasks row.dag.tasks) effect next is changes

pub clears_run : (state : StateRows) (dag_id run_id : List ℕ) (input : Result Bool BodyFault) (effect : Effect) (next : StateRows) → run_cleared state dag_id run_id input ≡ Ok effect → effect.next ≡ Some next → Clears state dag_id next
clears_run state dag_id run_id (Err why) effect next is changes = cc
clears_run state dag_id run_id (Ok dry) effect next is changes =
    run_clear_found (sched.dag_of state.dags dag_id) (run_of state.runs dag_id run_id) state dag_id run_id dry effect next is changes

-- instances of a DAG's runs: this was asked for, and its DAG found
pub record ClearsAsked (state : StateRows) (dag_id : List ℕ) (input : Result Clear BodyFault) (next : StateRows) : Type 0 where
  pub asked : Clear
  pub row : DagRow
  pub read : input ≡ Ok asked
  pub found : sched.dag_of state.dags dag_id ≡ Some row
  pub differ : are_left_by (filter_of dag_id asked) (selection_of row.dag.tasks asked) state.runs ≡ false
  pub next_is : next ≡ with_clear state (filter_of dag_id asked) (selection_of row.dag.tasks asked)

clear_asked : (dry left : Bool) (state : StateRows) (dag_id : List ℕ) (asked : Clear) (row : DagRow) (next : StateRows) → sched.dag_of state.dags dag_id ≡ Some row → are_left_by (filter_of dag_id asked) (selection_of row.dag.tasks asked) state.runs ≡ left
    → (if dry || left then None else Some (with_clear state (filter_of dag_id asked) (selection_of row.dag.tasks asked))) ≡ Some next → ClearsAsked state dag_id (Ok asked) next
clear_asked true left state dag_id asked row next found differ is = cc
clear_asked false true state dag_id asked row next found differ is = cc
clear_asked false false state dag_id asked row next found differ is =
    record { asked = asked; row = row; read = refl; found = found; differ = differ; next_is = cc }

clear_known : (run tasks : Result ⊤ OpFault) (row : DagRow) (state : StateRows) (dag_id : List ℕ) (asked : Clear) (effect : Effect) (next : StateRows) → sched.dag_of state.dags dag_id ≡ Some row
    → (run >>= (λ r. tasks >>= (λ t. Ok (clearing state row.dag.tasks (filter_of dag_id asked) (selection_of row.dag.tasks asked) asked.dry_run)))) ≡ Ok effect → effect.next ≡ Some next → ClearsAsked state dag_id (Ok asked) next
clear_known (Err why) tasks row state dag_id asked effect next found is changes = cc
clear_known (Ok r) (Err why) row state dag_id asked effect next found is changes = cc
clear_known (Ok r) (Ok t) row state dag_id asked effect next found is changes =
    clear_asked asked.dry_run (are_left_by (filter_of dag_id asked) (selection_of row.dag.tasks asked) state.runs) state dag_id asked row next found refl
    (let same : clearing state row.dag.tasks (filter_of dag_id asked) (selection_of row.dag.tasks asked) asked.dry_run ≡ effect = cc in ap (λ (e : Effect). e.next) same ∙ changes)

clear_found : (dag : Option DagRow) (state : StateRows) (dag_id : List ℕ) (asked : Clear) (effect : Effect) (next : StateRows) → sched.dag_of state.dags dag_id ≡ dag
    → (ok_or dag NoSuchDag >>= (λ row. known_run state dag_id asked.dag_run_id >>= (λ r. known_tasks row.dag.tasks asked.task_ids >>= (λ t. Ok (clearing state row.dag.tasks (filter_of dag_id asked) (selection_of row.dag.tasks asked) asked.dry_run))))) ≡ Ok effect
    → effect.next ≡ Some next → ClearsAsked state dag_id (Ok asked) next
clear_found None state dag_id asked effect next found is changes = cc
clear_found (Some row) state dag_id asked effect next found is changes =
    clear_known (known_run state dag_id asked.dag_run_id) (known_tasks row.dag.tasks asked.task_ids) row state dag_id asked effect next found is changes

pub clears_asked : (state : StateRows) (dag_id : List ℕ) (input : Result Clear BodyFault) (effect : Effect) (next : StateRows) → instances_cleared state dag_id input ≡ Ok effect → effect.next ≡ Some next → ClearsAsked state dag_id input next
clears_asked state dag_id (Err why) effect next is changes = cc
clears_asked state dag_id (Ok asked) effect next is changes =
    clear_found (sched.dag_of state.dags dag_id) state dag_id asked effect next refl is changes

pub clears_instances : (state : StateRows) (dag_id : List ℕ) (input : Result Clear BodyFault) (effect : Effect) (next : StateRows) → instances_cleared state dag_id input ≡ Ok effect → effect.next ≡ Some next → Clears state dag_id next
clears_instances state dag_id input effect next is changes =
    let it = clears_asked state dag_id input effect next is changes in
    record { asked = filter_of dag_id it.asked; selection = selection_of it.row.dag.tasks it.asked; of_dag = refl; differ = it.differ; next_is = it.next_is }

-- all instances of a run that are cleared: its DAG was found, and this is the next state
record ClearsWhole (state : StateRows) (dag_id run_id : List ℕ) (next : StateRows) : Type 0 where
  pub row : DagRow
  pub found : sched.dag_of state.dags dag_id ≡ Some row
  pub next_is : next ≡ with_clear state (one_run dag_id run_id) (all_tasks row.dag.tasks)

whole_next : (dry left : Bool) (state : StateRows) (asked : RunFilter) (selection : Selection) (next : StateRows) → (if dry || left then None else Some (with_clear state asked selection)) ≡ Some next → next ≡ with_clear state asked selection
whole_next true left state asked selection next is = cc
whole_next false true state asked selection next is = cc
whole_next false false state asked selection next is = cc

whole_found : (dag : Option DagRow) (run : Option Run) (state : StateRows) (dag_id run_id : List ℕ) (dry : Bool) (effect : Effect) (next : StateRows) → sched.dag_of state.dags dag_id ≡ dag
    → (ok_or dag NoSuchDag >>= (λ row. ok_or run NoSuchRun >>= (λ it. Ok (clearing state row.dag.tasks (one_run dag_id run_id) (all_tasks row.dag.tasks) dry)))) ≡ Ok effect → effect.next ≡ Some next → ClearsWhole state dag_id run_id next
whole_found None run state dag_id run_id dry effect next found is changes = cc
whole_found (Some row) None state dag_id run_id dry effect next found is changes = cc
whole_found (Some row) (Some run) state dag_id run_id dry effect next found is changes = record {
  row = row;
  found = found;
  next_is = whole_next dry (are_left_by (one_run dag_id run_id) (all_tasks row.dag.tasks) state.runs) state (one_run dag_id run_id) (all_tasks row.dag.tasks) next
      (let same : clearing state row.dag.tasks (one_run dag_id run_id) (all_tasks row.dag.tasks) dry ≡ effect = cc in ap (λ (e : Effect). e.next) same ∙ changes);
}

clears_whole : (state : StateRows) (dag_id run_id : List ℕ) (input : Result Bool BodyFault) (effect : Effect) (next : StateRows) → run_cleared state dag_id run_id input ≡ Ok effect → effect.next ≡ Some next → ClearsWhole state dag_id run_id next
clears_whole state dag_id run_id (Err why) effect next is changes = cc
clears_whole state dag_id run_id (Ok dry) effect next is changes =
    whole_found (sched.dag_of state.dags dag_id) (run_of state.runs dag_id run_id) state dag_id run_id dry effect next refl is changes

pub touches_chosen : ClearsTouchChosenAlone
touches_chosen reads state dag_id now effect next changes = (
  (λ input is. let it = clears_asked state dag_id input effect next is changes in
      (it.asked, (it.row, it.read, it.found, it.next_is, (λ k d within. chosen_alone (selection_of it.row.dag.tasks it.asked) (get_or state.runs k d))))),
  (λ run_id input is. let it = clears_whole state dag_id run_id input effect next is changes in
      (it.row, it.found, it.next_is, (λ k d within. chosen_alone (all_tasks it.row.dag.tasks) (get_or state.runs k d)))),
)

-- ---- dry runs
dry_clear : (dag : Option DagRow) (run : Option Run) (state : StateRows) (dag_id run_id : List ℕ) (dry : Bool) (effect : Effect) → dry ≡ true
    → (ok_or dag NoSuchDag >>= (λ row. ok_or run NoSuchRun >>= (λ it. Ok (clearing state row.dag.tasks (one_run dag_id run_id) (all_tasks row.dag.tasks) dry)))) ≡ Ok effect → effect.next ≡ None
unfolding next_in
dry_clear None run state dag_id run_id dry effect only is = cc
dry_clear (Some row) None state dag_id run_id dry effect only is = cc
dry_clear (Some row) (Some run) state dag_id run_id dry effect only is =
    ap (λ (r : Result Effect OpFault). next_in r) (sym is)
    ∙ ap (λ (b : Bool). if b || are_left_by (one_run dag_id run_id) (all_tasks row.dag.tasks) state.runs then None else Some (with_clear state (one_run dag_id run_id) (all_tasks row.dag.tasks))) only

dry_known : (run tasks : Result ⊤ OpFault) (row : DagRow) (state : StateRows) (dag_id : List ℕ) (asked : Clear) (effect : Effect) → asked.dry_run ≡ true
    → (run >>= (λ r. tasks >>= (λ t. Ok (clearing state row.dag.tasks (filter_of dag_id asked) (selection_of row.dag.tasks asked) asked.dry_run)))) ≡ Ok effect → effect.next ≡ None
unfolding next_in
dry_known (Err why) tasks row state dag_id asked effect only is = cc
dry_known (Ok r) (Err why) row state dag_id asked effect only is = cc
dry_known (Ok r) (Ok t) row state dag_id asked effect only is =
    ap (λ (r : Result Effect OpFault). next_in r) (sym is)
    ∙ ap (λ (b : Bool). if b || are_left_by (filter_of dag_id asked) (selection_of row.dag.tasks asked) state.runs then None else Some (with_clear state (filter_of dag_id asked) (selection_of row.dag.tasks asked))) only

dry_found : (dag : Option DagRow) (state : StateRows) (dag_id : List ℕ) (asked : Clear) (effect : Effect) → asked.dry_run ≡ true
    → (ok_or dag NoSuchDag >>= (λ row. known_run state dag_id asked.dag_run_id >>= (λ r. known_tasks row.dag.tasks asked.task_ids >>= (λ t. Ok (clearing state row.dag.tasks (filter_of dag_id asked) (selection_of row.dag.tasks asked) asked.dry_run))))) ≡ Ok effect
    → effect.next ≡ None
dry_found None state dag_id asked effect only is = cc
dry_found (Some row) state dag_id asked effect only is =
    dry_known (known_run state dag_id asked.dag_run_id) (known_tasks row.dag.tasks asked.task_ids) row state dag_id asked effect only is

pub dry_runs_keep : DryRunsLeaveTheState
dry_runs_keep reads state now effect = (
  (λ dag_id run_id is. dry_clear (sched.dag_of state.dags dag_id) (run_of state.runs dag_id run_id) state dag_id run_id true effect refl is),
  (λ dag_id asked only is. dry_found (sched.dag_of state.dags dag_id) state dag_id asked effect only is),
)
