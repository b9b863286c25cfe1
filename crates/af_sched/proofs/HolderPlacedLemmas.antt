-- The instances of the runs that hold slots, among those of all: every one that may be claimed is there.
use Rattle.std.proofs.Common.{◌≡◌, ◌∙◌, List, [], ◌∷◌, sym, refl, ap, Bool, true, false, cond, ⊎_elim}
use Rattle.std.specs.Prelude.{Some, None, Option, Contains, nat_lt, ◌&&◌}
use Rattle.std.proofs.lemmas.Bool.{cases_Bool, true≢false}
use Rattle.std.proofs.lemmas.List.Elements.{Contains-append_left, Contains-append_right, Contains-append_cases}
use Rattle.af_graph.specs.States.{same_state}
use Rattle.af_graph.specs.declared.task_state.TaskState.{TaskState}
use Rattle.af_graph.specs.declared.task_state.TaskState.TheVariants as task_state
use Rattle.af_runs.specs.Busy.{holders_of, holds_any, is_held}
use Rattle.af_runs.specs.declared.run.Run.{Run}
use Rattle.af_sched.specs.Claims.{is_claimable}
use Rattle.af_sched.specs.Placed.{IsFirstOf, Placed, placed_in, placed_of}
use Rattle.af_sched.specs.State.{tasks_of}
use Rattle.af_sched.specs.declared.dag_row.DagRow.{DagRow}
use Rattle.af_sched.proofs.PlacedLemmas.{none_placed}

not_claimable : (placed : Placed) → is_held placed.instance.state ≡ false → is_claimable placed ≡ false
not_claimable placed none = by placed.instance.state refl
  where
    other : (s : TaskState) → placed.instance.state ≡ s → same_state s task_state.Queued ≡ false → is_claimable placed ≡ false
    other s is differs = ap (λ (state : TaskState). same_state state task_state.Queued && nat_lt placed.instance.try_number 4_294_967_295) is ∙ ap (λ (b : Bool). b && nat_lt placed.instance.try_number 4_294_967_295) differs

    by : (s : TaskState) → placed.instance.state ≡ s → is_claimable placed ≡ false
    by task_state.NoStatus is = other task_state.NoStatus is refl
    by task_state.Scheduled is = other task_state.Scheduled is refl
    by task_state.Queued is = absurd (true≢false (ap is_held (sym is) ∙ none))
    by task_state.Running is = other task_state.Running is refl
    by task_state.Success is = other task_state.Success is refl
    by task_state.Failed is = other task_state.Failed is refl
    by task_state.Skipped is = other task_state.Skipped is refl
    by task_state.UpstreamFailed is = other task_state.UpstreamFailed is refl
    by task_state.UpForRetry is = other task_state.UpForRetry is refl

module _ (dags : List DagRow) where
  all_here : (run : Run) (runs : List Run) (b : Bool) (placed : Placed) → Contains (placed_in dags (cond b (run ∷ holders_of runs) (holders_of runs))) placed → (Contains (placed_in dags (holders_of runs)) placed → Contains (placed_in dags runs) placed) → Contains (placed_in dags (run ∷ runs)) placed
  all_here run runs false placed has rest = Contains-append_right (placed_of (tasks_of dags run.dag_id) run) (placed_in dags runs) placed (rest has)
  all_here run runs true placed has rest =
      ⊎_elim
      (λ (here : Contains (placed_of (tasks_of dags run.dag_id) run) placed). Contains-append_left (placed_of (tasks_of dags run.dag_id) run) (placed_in dags runs) placed here)
      (λ (more : Contains (placed_in dags (holders_of runs)) placed). Contains-append_right (placed_of (tasks_of dags run.dag_id) run) (placed_in dags runs) placed (rest more))
      (Contains-append_cases (placed_of (tasks_of dags run.dag_id) run) (placed_in dags (holders_of runs)) placed has)

  -- an instance of a run that holds slots is one of all
  in_all : (runs : List Run) (placed : Placed) → Contains (placed_in dags (holders_of runs)) placed → Contains (placed_in dags runs) placed
  in_all [] placed has = has
  in_all (run ∷ runs) placed has = all_here run runs (holds_any run) placed has (in_all runs placed)

  -- one that may be claimed is of a run that holds slots
  here_held : (run : Run) (some : List Run) (b : Bool) (placed : Placed) → holds_any run ≡ b → is_claimable placed ≡ true → Contains (placed_of (tasks_of dags run.dag_id) run) placed → Contains (placed_in dags (cond b (run ∷ some) some)) placed
  here_held run some true placed is may has = Contains-append_left (placed_of (tasks_of dags run.dag_id) run) (placed_in dags some) placed has
  here_held run some false placed none may has =
      absurd (true≢false (sym may ∙ not_claimable placed (none_placed (λ instance. is_held instance.state) (tasks_of dags run.dag_id) run none placed has)))

  later_held : (run : Run) (some : List Run) (b : Bool) (placed : Placed) → Contains (placed_in dags some) placed → Contains (placed_in dags (cond b (run ∷ some) some)) placed
  later_held run some true placed has = Contains-append_right (placed_of (tasks_of dags run.dag_id) run) (placed_in dags some) placed has
  later_held run some false placed has = has

  in_holders : (runs : List Run) (placed : Placed) → Contains (placed_in dags runs) placed → is_claimable placed ≡ true → Contains (placed_in dags (holders_of runs)) placed
  in_holders [] placed has may = has
  in_holders (run ∷ runs) placed has may =
      ⊎_elim
      (λ (here : Contains (placed_of (tasks_of dags run.dag_id) run) placed). here_held run (holders_of runs) (holds_any run) placed refl may here)
      (λ (more : Contains (placed_in dags runs) placed). later_held run (holders_of runs) (holds_any run) placed (in_holders runs placed more may))
      (Contains-append_cases (placed_of (tasks_of dags run.dag_id) run) (placed_in dags runs) placed has)

  -- the first of those that hold slots is the first of all
  pub first_of_holders : (runs : List Run) (first : Option Placed) → IsFirstOf is_claimable (placed_in dags (holders_of runs)) first → IsFirstOf is_claimable (placed_in dags runs) first
  first_of_holders runs None none = λ other has.
      ⊎_elim (λ (may : is_claimable other ≡ true). absurd (true≢false (sym may ∙ none other (in_holders runs other has may)))) (λ (not : is_claimable other ≡ false). not) (cases_Bool (is_claimable other))
  first_of_holders runs (Some first) is = record {
    member = in_all runs first is.member;
    passes = is.passes;
    before_others = λ other has may. is.before_others other (in_holders runs other has may) may;
  }
