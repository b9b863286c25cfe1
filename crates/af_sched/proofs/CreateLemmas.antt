-- Runs added one after the other are those that the phase adds.
use Rattle.std.proofs.Common.{◌≡◌, ◌<◌, ◌+◌, ◌∙◌, ℕ, List, [], ◌∷◌, ◌++◌, length, map, get_or, take, sym, ap}
use Rattle.std.specs.Prelude.{fold}
use Rattle.std.proofs.lemmas.List.{take_more, map-append}
use Rattle.std.proofs.lemmas.List.Sums.{fold_more, fold-append}
use Rattle.af_runs.specs.Runs.{RunRows}
use Rattle.af_runs.specs.declared.new_run.NewRun.{NewRun}
use Rattle.af_sched.specs.Create.{with_run, with_runs_of, runs_of_row}
use Rattle.af_sched.specs.Steps.{TakesRuns, TakesRunsOf, with_rows}
use Rattle.af_sched.specs.State.{StateRows}
use Rattle.af_sched.specs.declared.dag_row.DagRow.{DagRow}

pub map_more : {X Y : Type 0} (f : X → Y) (xs : List X) (i : ℕ) (d : X) → i < length xs → map f (take i xs) ++ f (get_or xs i d) ∷ [] ≡ map f (take (i + 1) xs)
map_more f xs i d inside =
    sym (ap (map f) (take_more xs i d inside) ∙ map-append f (take i xs) (get_or xs i d ∷ []))

pub takes_more : (xs ys : List NewRun) (a b c : RunRows) → TakesRuns xs a b → TakesRuns ys b c → TakesRuns (xs ++ ys) a c
takes_more xs ys a b c first second state =
    second state ∙ ap (λ (s : StateRows). fold with_run s ys) (first state) ∙ sym (fold-append with_run (with_rows state a) xs ys)

pub takes_of_more : (t : ℕ) (dags : List DagRow) (i : ℕ) (d : DagRow) (a b c : RunRows) → i < length dags → TakesRunsOf t (take i dags) a b → TakesRuns (runs_of_row t (get_or dags i d)) b c → TakesRunsOf t (take (i + 1) dags) a c
takes_of_more t dags i d a b c inside first second state =
    second state
    ∙ ap (λ (s : StateRows). with_runs_of t s (get_or dags i d)) (first state)
    ∙ sym (fold_more (with_runs_of t) (with_rows state a) dags i d inside)
