-- Runs started one after the other are those that the phase starts.
use Rattle.std.proofs.Common.{◌≡◌, ◌≢◌, ◌<◌, ◌≤◌, ◌+◌, ◌∙◌, ℕ, List, [], ◌∷◌, length, get_or, set, refl, sym, ap, subst, arith, zero, suc, Bool, cond, ⊎_elim}
use Rattle.std.proofs.lemmas.Bool.{cases_lt}
use Rattle.std.proofs.lemmas.List.{get_or-set_other, get_or-set_same}
use Rattle.af_runs.specs.declared.run.Run.{Run}
use Rattle.af_sched.specs.Start.{starts, started_run}
use Rattle.af_sched.specs.declared.dag_row.DagRow.{DagRow}

pub get_or-same : {X : Type 0} (xs : List X) (i : ℕ) (d e : X) → i < length xs → get_or xs i d ≡ get_or xs i e
get_or-same [] i d e within = absurd (omega arith)
get_or-same (x ∷ xs) zero d e within = refl
get_or-same (x ∷ xs) (suc i) d e within = get_or-same xs i d e (omega arith)

abbrev pub done_so_far : ℕ → List DagRow → List Run → List Run → ℕ → Type 0
done_so_far t dags old now turns =
    ((k : ℕ) (d : Run) → k < turns → get_or now k d ≡ cond (starts dags old (get_or old k d)) (started_run t (get_or old k d)) (get_or old k d))
    × ((k : ℕ) (d : Run) → turns ≤ k → get_or now k d ≡ get_or old k d)

pub started_step : (t : ℕ) (dags : List DagRow) (old now : List Run) (place : ℕ) (run new : Run) (chosen : Bool) → length now ≡ length old → place < length old → run ≡ get_or now place run → chosen ≡ starts dags old (get_or old place run) → new ≡ cond chosen (started_run t run) run → done_so_far t dags old now place → done_so_far t dags old (set now place new) (place + 1)
started_step t dags old now place run new chosen long inside here is_chosen made so_far =
    let within : place < length now = omega arith in
    let was : (d : Run) → run ≡ get_or old place d = λ d. here ∙ so_far.1 place run (omega arith) ∙ get_or-same old place run d inside in (
      (λ k d below. ⊎_elim
          (λ (earlier : k < place). let other : k ≢ place = omega arith in get_or-set_other now place k new d other ∙ so_far.0 k d earlier)
          (λ (last : place ≤ k). let same : place ≡ k = omega arith in
          subst (λ (n : ℕ). get_or (set now place new) n d ≡ cond (starts dags old (get_or old n d)) (started_run t (get_or old n d)) (get_or old n d)) same
          (get_or-set_same now place new d within ∙ made ∙ ap (λ (b : Bool). cond b (started_run t run) run) (is_chosen ∙ ap (starts dags old) (sym (was run) ∙ was d)) ∙ ap (λ (r : Run). cond (starts dags old (get_or old place d)) (started_run t r) r) (was d)))
          (cases_lt k place)),
      (λ k d above. let other : k ≢ place = omega arith in get_or-set_other now place k new d other ∙ so_far.1 k d (omega arith)),
    )
