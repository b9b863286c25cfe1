-- An edit changes the state exactly where something differs.
use Rattle.std.proofs.Common.{◌≡◌, ◌≢◌, ◌+◌, ℕ, Bool, true, false, cond, List, [], ◌∷◌, refl, sym, ◌∙◌, ap, not, arith}
use Rattle.std.specs.Prelude.{Some, None, if◌then◌else◌}
use Rattle.af_runs.specs.declared.new_run.NewRun.{NewRun}
use Rattle.af_pool.specs.Pools.{with_pool, with_slots, without_pool}
use Rattle.af_sched.specs.Plan.{applied}
use Rattle.af_sched.specs.State.{StateRows, dag_of, is_of_id, with_paused}
use Rattle.af_vars.specs.Variables.{with_value, with_variable, without_variable}
use Rattle.af_sched.specs.declared.dag_row.DagRow.{DagRow}
use Rattle.af_ops.specs.declared.edit.Edit.{Edit}
use Rattle.af_ops.specs.declared.edit.Edit.TheVariants as edit
use Rattle.af_ops.specs.Edits.{next_by, with_clear, with_mark, with_run, without}
use Rattle.af_ops.specs.Effects.{differs}
use Rattle.af_ops.specs.Prepared.{IsExact}

row_apart : (is_paused stands : Bool) (row : DagRow) → row.is_paused ≡ stands → (if is_paused then not stands else stands) ≡ true → record row { is_paused = is_paused } ≡ row → ⊥
row_apart true true row is differ same = cc
row_apart true false row is differ same = let now = ap (λ (r : DagRow). r.is_paused) same in cc
row_apart false true row is differ same = let now = ap (λ (r : DagRow). r.is_paused) same in cc
row_apart false false row is differ same = cc

apart_by : (is : Bool) (dag_id : List ℕ) (is_paused : Bool) (first row : DagRow) (dags : List DagRow) → cond is (Some first) (dag_of dags dag_id) ≡ Some row → differs row is_paused ≡ true → (dag_of dags dag_id ≡ Some row → with_paused dags dag_id is_paused ≢ dags) → cond is (record first { is_paused = is_paused }) first ∷ with_paused dags dag_id is_paused ≡ first ∷ dags → ⊥
apart_by true dag_id is_paused first row dags found differ rest same =
    let is_row : first ≡ row = cc in
    row_apart is_paused first.is_paused first refl (ap (λ (r : DagRow). differs r is_paused) is_row ∙ differ) (cc)
apart_by false dag_id is_paused first row dags found differ rest same = rest found (cc)

-- a DAG that stands otherwise is not what it was once it is paused, or not
pub paused_apart : (dag_id : List ℕ) (is_paused : Bool) (dags : List DagRow) (row : DagRow) → dag_of dags dag_id ≡ Some row → differs row is_paused ≡ true → with_paused dags dag_id is_paused ≢ dags
paused_apart dag_id is_paused [] row found differ same = cc
paused_apart dag_id is_paused (first ∷ dags) row found differ same =
    apart_by (is_of_id dag_id first) dag_id is_paused first row dags found differ (λ later. paused_apart dag_id is_paused dags row later differ) same

-- a state with one run more has given out a number
next_apart : (n : ℕ) → n + 1 ≢ n
next_apart n same = absurd (omega (arith, same))

pub run_apart : (state : StateRows) (new : NewRun) → with_run state new ≢ state
run_apart state new same = next_apart state.next_run (ap (λ (s : StateRows). s.next_run) same)

-- the edit that adds a run
pub add_exact : (state : StateRows) (new : NewRun) → IsExact state (edit.RunAdded new)
add_exact state new = ((λ no. cc), (λ same. absurd (run_apart state new same)))

exact_by : (b : Bool) (state : StateRows) (dag_id : List ℕ) (is_paused : Bool) (row : DagRow) (made : StateRows) → differs row is_paused ≡ b → dag_of state.dags dag_id ≡ Some row → Some made ≡ (if b then Some (record state { dags = with_paused state.dags dag_id is_paused }) else None) → made ≡ state → ⊥
exact_by false state dag_id is_paused row made differ found next same = cc
exact_by true state dag_id is_paused row made differ found next same =
    let is : made ≡ record state { dags = with_paused state.dags dag_id is_paused } = cc in
    paused_apart dag_id is_paused state.dags row found differ (ap (λ (s : StateRows). s.dags) (sym is ∙ same))

-- the edit of a DAG that is paused, or not
pub pause_exact : (state : StateRows) (dag_id : List ℕ) (is_paused : Bool) (row : DagRow) (it : Edit) → dag_of state.dags dag_id ≡ Some row → next_by it state ≡ (if differs row is_paused then Some (record state { dags = with_paused state.dags dag_id is_paused }) else None) → IsExact state it
pause_exact state dag_id is_paused row edit.Nothing found next = ((λ no. refl), (λ same. refl))
pause_exact state dag_id is_paused row (edit.DagPaused id paused) found next =
    ((λ no. cc), (λ same. absurd (exact_by (differs row is_paused) state dag_id is_paused row (record state { dags = with_paused state.dags id paused }) refl found next same)))
pause_exact state dag_id is_paused row (edit.RunAdded new) found next = add_exact state new
pause_exact state dag_id is_paused row (edit.RunMarked number mark at) found next =
    ((λ no. cc), (λ same. absurd (exact_by (differs row is_paused) state dag_id is_paused row (with_mark state number mark at) refl found next same)))
pause_exact state dag_id is_paused row (edit.RunRemoved number) found next =
    ((λ no. cc), (λ same. absurd (exact_by (differs row is_paused) state dag_id is_paused row (without state number) refl found next same)))
pause_exact state dag_id is_paused row (edit.RunsPlanned plan) found next =
    ((λ no. cc), (λ same. absurd (exact_by (differs row is_paused) state dag_id is_paused row (applied plan state) refl found next same)))
pause_exact state dag_id is_paused row (edit.InstancesCleared filter selection) found next =
    ((λ no. cc), (λ same. absurd (exact_by (differs row is_paused) state dag_id is_paused row (with_clear state filter selection) refl found next same)))
pause_exact state dag_id is_paused row (edit.PoolAdded name slots) found next =
    ((λ no. cc), (λ same. absurd (exact_by (differs row is_paused) state dag_id is_paused row (record state { pools = with_pool state.pools record { name = name; slots = slots } }) refl found next same)))
pause_exact state dag_id is_paused row (edit.PoolSet name slots) found next =
    ((λ no. cc), (λ same. absurd (exact_by (differs row is_paused) state dag_id is_paused row (record state { pools = with_slots state.pools name slots }) refl found next same)))
pause_exact state dag_id is_paused row (edit.PoolRemoved name) found next =
    ((λ no. cc), (λ same. absurd (exact_by (differs row is_paused) state dag_id is_paused row (record state { pools = without_pool state.pools name }) refl found next same)))
pause_exact state dag_id is_paused row (edit.VariableAdded variable) found next =
    ((λ no. cc), (λ same. absurd (exact_by (differs row is_paused) state dag_id is_paused row (record state { variables = with_variable state.variables variable }) refl found next same)))
pause_exact state dag_id is_paused row (edit.VariableSet key value) found next =
    ((λ no. cc), (λ same. absurd (exact_by (differs row is_paused) state dag_id is_paused row (record state { variables = with_value state.variables key value }) refl found next same)))
pause_exact state dag_id is_paused row (edit.VariableRemoved key) found next =
    ((λ no. cc), (λ same. absurd (exact_by (differs row is_paused) state dag_id is_paused row (record state { variables = without_variable state.variables key }) refl found next same)))
