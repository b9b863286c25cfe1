-- Listings of runs, and runs that are added.
use Rattle.std.proofs.Common.{◌≡◌, ◌≤◌, ◌<◌, ◌∙◌, ℕ, zero, suc, Bool, true, false, ◌&&◌, cond, List, [], ◌∷◌, length, get_or, refl, sym, ap, subst, arith}
use Rattle.std.specs.Prelude.{Contains, Some, filter, option_map}
use Rattle.std.proofs.lemmas.Bool.{and_parts}
use Rattle.std.proofs.lemmas.List.{length-map}
use Rattle.std.proofs.lemmas.List.Elements.{All-contains, All-contains_itself, All-filter, All-map, filter_passes}
use Rattle.af_graph.specs.declared.task_state.TaskState.TheVariants.{NoStatus}
use Rattle.af_runs.specs.Instances.{new_instance}
use Rattle.af_runs.specs.Runs.{queued_run}
use Rattle.af_runs.specs.declared.instance.Instance.{Instance}
use Rattle.af_runs.specs.declared.run.Run.{Run}
use Rattle.af_sched.specs.State.{StateRows}
use Rattle.af_sched.specs.declared.dag_row.DagRow.{DagRow}
use Rattle.af_policy.specs.Grants.{shows_runs}
use Rattle.af_ops.specs.declared.op.Op.TheVariants as op
use Rattle.af_ops.specs.Edits.{with_run}
use Rattle.af_ops.specs.Effects.{id_or, new_run}
use Rattle.af_ops.specs.Laws.{RunNumbersRise, RunsListedAreThoseRead, TriggersAddARun}
use Rattle.af_ops.proofs.BackfillLemmas.{backfills, backfills_grow, grown_rises}
use Rattle.af_ops.proofs.PoolLemmas.{pools_touch}
use Rattle.af_ops.proofs.VariableLemmas.{variables_touch}
use Rattle.af_ops.proofs.LawLemmas.{unchanged}
use Rattle.af_ops.proofs.ReadingLemmas.{readings_keep}
use Rattle.af_ops.proofs.StepLemmas.{clears_instances, clears_run, deletes, marks, pauses, some_same, triggers}

later : {X : Type 0} (b : Bool) (y : X) (ys : List X) (x : X) → Contains ys x → Contains (cond b (y ∷ ys) ys) x
later true y ys x at = (suc at.0, omega (arith, at.1), at.2)
later false y ys x at = at

-- what passes is kept
kept_at : {X : Type 0} (p : X → Bool) (xs : List X) (k : ℕ) (x : X) → k < length xs → get_or xs k x ≡ x → p x ≡ true → Contains (filter p xs) x
kept_at p [] k x within is passes = absurd (omega (arith, within))
kept_at p (y ∷ xs) zero x within is passes =
    subst (λ (b : Bool). Contains (cond b (y ∷ filter p xs) (filter p xs)) x) (sym (ap p is ∙ passes)) (0, omega arith, is)
kept_at p (y ∷ xs) (suc k) x within is passes = later (p y) y (filter p xs) x (kept_at p xs k x (omega arith) is passes)

pub listed_read : RunsListedAreThoseRead
listed_read readable state run =
    let shown : Run → Bool = λ it. shows_runs readable it.dag_id in (
      (λ at.
          let parts = and_parts (readable.dags run.dag_id) (readable.runs run.dag_id) (All-contains (λ (it : Run). shown it ≡ true) (filter shown state.runs) run (filter_passes shown state.runs) at) in (
            All-contains (Contains state.runs) (filter shown state.runs) run (All-filter shown (Contains state.runs) state.runs (All-contains_itself state.runs)) at,
            parts.0,
            parts.1,
          )),
      (λ both. kept_at shown state.runs both.0.0 run both.0.1 both.0.2 (λ i. both.1 i && both.2 i)),
    )

pub adds_run : TriggersAddARun
adds_run reads state dag_id input now effect kept is =
    let it = triggers state dag_id input now effect is in
    let new = new_run it.row dag_id it.run_id it.date in (
      it.asked,
      it.read,
      (
        with_run state new,
        it.next_is,
        (
          queued_run state.next_run new,
          record {
            last = refl;
            of_dag = refl;
            named = it.named ∙ ap (id_or it.asked.dag_run_id) it.dated;
            dated = it.dated;
            begins = it.dated;
            ends = it.dated;
            manual = refl;
            queued = refl;
            not_begun = refl;
            not_ended = refl;
            whole = ap (option_map (λ (row : DagRow). length row.dag.tasks)) it.found ∙ ap Some (sym (length-map it.row.dag.tasks new_instance));
            untried = All-map (λ (it : Instance). (it.state ≡ NoStatus) × (it.try_number ≡ 0)) new_instance it.row.dag.tasks (λ k d within. (refl, refl));
            above = kept.numbered;
            next = refl;
            dags = refl;
            pools = refl;
            variables = refl;
          },
        ),
      ),
    )

pub numbers_rise : RunNumbersRise
numbers_rise reads state op.Version now effect next is changes = unchanged effect next (readings_keep reads state op.Version now effect refl is) changes
numbers_rise reads state (op.ListDags asked) now effect next is changes = unchanged effect next (readings_keep reads state (op.ListDags asked) now effect refl is) changes
numbers_rise reads state (op.GetDag dag_id) now effect next is changes = unchanged effect next (readings_keep reads state (op.GetDag dag_id) now effect refl is) changes
numbers_rise reads state (op.PauseDag dag_id input) now effect next is changes =
    let it = pauses state dag_id input effect next is changes in
    subst (λ (s : StateRows). state.next_run ≤ s.next_run) (sym it.next_is) (omega arith)
numbers_rise reads state (op.ListTasks dag_id) now effect next is changes = unchanged effect next (readings_keep reads state (op.ListTasks dag_id) now effect refl is) changes
numbers_rise reads state (op.ListRuns dag asked) now effect next is changes = unchanged effect next (readings_keep reads state (op.ListRuns dag asked) now effect refl is) changes
numbers_rise reads state (op.TriggerRun dag_id input) now effect next is changes =
    let it = triggers state dag_id input now effect is in
    subst (λ (s : StateRows). state.next_run ≤ s.next_run) (some_same (sym it.next_is ∙ changes)) (omega arith)
numbers_rise reads state (op.GetRun dag_id run_id) now effect next is changes = unchanged effect next (readings_keep reads state (op.GetRun dag_id run_id) now effect refl is) changes
numbers_rise reads state (op.MarkRun dag_id run_id input) now effect next is changes =
    let it = marks state dag_id run_id input now effect next is changes in
    subst (λ (s : StateRows). state.next_run ≤ s.next_run) (sym it.next_is) (omega arith)
numbers_rise reads state (op.DeleteRun dag_id run_id) now effect next is changes =
    let it = deletes state dag_id run_id effect next is changes in
    subst (λ (s : StateRows). state.next_run ≤ s.next_run) (sym it.next_is) (omega arith)
numbers_rise reads state (op.ClearRun dag_id run_id input) now effect next is changes =
    let it = clears_run state dag_id run_id input effect next is changes in
    subst (λ (s : StateRows). state.next_run ≤ s.next_run) (sym it.next_is) (omega arith)
numbers_rise reads state (op.ClearInstances dag_id input) now effect next is changes =
    let it = clears_instances state dag_id input effect next is changes in
    subst (λ (s : StateRows). state.next_run ≤ s.next_run) (sym it.next_is) (omega arith)
numbers_rise reads state (op.ListInstances dag_id run_id asked) now effect next is changes = unchanged effect next (readings_keep reads state (op.ListInstances dag_id run_id asked) now effect refl is) changes
numbers_rise reads state (op.GetInstance dag_id run_id task_id) now effect next is changes = unchanged effect next (readings_keep reads state (op.GetInstance dag_id run_id task_id) now effect refl is) changes
numbers_rise reads state (op.BackfillDag dag_id input) now effect next is changes =
    grown_rises state next dag_id (backfills_grow state dag_id input effect next (backfills state dag_id input effect is) changes)
numbers_rise reads state (op.Pool it) now effect next is changes =
    let same = pools_touch it state next effect is changes in
    subst (λ (s : StateRows). state.next_run ≤ s.next_run) (sym same.rest) (omega arith)
numbers_rise reads state (op.Variable it) now effect next is changes =
    let same = variables_touch it state next effect is changes in
    subst (λ (s : StateRows). state.next_run ≤ s.next_run) (sym same.rest) (omega arith)
