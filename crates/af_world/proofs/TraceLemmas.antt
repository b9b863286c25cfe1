-- Steps have some answers exactly where the first has its own, and the others have theirs in the world that it leaves.
use Rattle.std.proofs.Common.{◌≡◌, ◌≢◌, ◌∙◌, ◌≤◌, ◌<◌, ◌+◌, refl, sym, ap, subst, ℕ, suc, List, [], ◌∷◌, Bool, true, false, Option, length, get_or, drop}
use Rattle.std.specs.Bool.{Decides}
use Rattle.std.proofs.lemmas.List.{drop_all, drop_more}
use Rattle.af_ops.specs.declared.shown_answer.Shown.{Shown}
use Rattle.af_audit.specs.Acts.{IsState}
use Rattle.af_world.specs.declared.step.Step.{Step}
use Rattle.af_world.specs.Laws.{RunsAreOne}
use Rattle.af_world.specs.Moving.{move_of}
use Rattle.af_world.specs.Runs.{AreAnswers, IsRun}
use Rattle.af_world.specs.Steps.{Moves}
use Rattle.af_world.specs.Worlds.{World}

-- there is an answer to each step
run_length : (w last : World) (steps : List Step) (answers : List (Option Shown)) → IsRun w steps answers last → length steps ≡ length answers
run_length w last [] [] run = refl
run_length w last [] (a ∷ answers) run = absurd run
run_length w last (s ∷ steps) [] run = absurd run
run_length w last (s ∷ steps) (a ∷ answers) run = ap suc (run_length run.0 last steps answers run.3)

pub not_as_many : (w : World) (steps : List Step) (answers : List (Option Shown)) → length steps ≢ length answers → AreAnswers w steps answers → ⊥
not_as_many w steps answers other are = other (run_length w are.0 steps answers are.1)

-- in a world whose state is as it is at all times, these are the answers of these steps exactly where this holds
pub record Alike (P : Type 0) (w : World) (steps : List Step) (answers : List (Option Shown)) : Type 0 where
  pub state : IsState w.ledger.state
  pub holds : AreAnswers w steps answers → P
  pub answered : P → AreAnswers w steps answers

pub alike_opening : (w : World) (steps : List Step) (answers : List (Option Shown)) → IsState w.ledger.state → Alike (AreAnswers w steps answers) w steps answers
alike_opening w steps answers state = record { state = state; holds = λ are. are; answered = λ are. are }

-- no step is left, and no answer
pub alike_end : (P : Type 0) (w : World) → Alike P w [] [] → P
alike_end P w alike = alike.holds (w, refl)

module _ (runs_are_one : RunsAreOne) (P : Type 0) (w next : World) (s : Step) (told answer : Option Shown) (steps : List Step) (answers : List (Option Shown)) (moves : Moves w s (move_of told next)) (state : IsState next.ledger.state) (alike : Alike P w (s ∷ steps) (answer ∷ answers)) where
  same_step : (other : World) → IsState other.ledger.state → Moves w s (move_of answer other) → (told ≡ answer) × (next ≡ other)
  same_step other is_state here =
      let both = runs_are_one w next other (s ∷ []) (told ∷ []) (answer ∷ []) alike.state (next, state, moves, refl) (other, is_state, here, refl) in
      (ap (λ (xs : List (Option Shown)). get_or xs 0 told) both.0, both.1)

  alike_differs : told ≢ answer → P → ⊥
  alike_differs other p = (let run = alike.answered p in other (same_step run.1.0 run.1.1 run.1.2).0)

  alike_next : told ≡ answer → Alike P next steps answers
  alike_next same = record {
    state = state;
    holds = λ are. alike.holds (are.0, (next, state, subst (λ (it : Option Shown). Moves w s (move_of it next)) same moves, are.1));
    answered = λ p.
        let run = alike.answered p in
        (run.0, subst (λ (it : World). IsRun it steps answers run.0) (sym (same_step run.1.0 run.1.1 run.1.2).1) run.1.3);
  }

-- the same at a place of the lists
module _ (runs_are_one : RunsAreOne) (P : Type 0) (w next : World) (steps : List Step) (answers : List (Option Shown)) (i : ℕ) (s : Step) (given told : Option Shown) (lt : i < length steps) (under : i < length answers)
    (at : s ≡ get_or steps i s) (given_at : given ≡ get_or answers i given) (moves : Moves w s (move_of told next)) (state : IsState next.ledger.state) (alike : Alike P w (drop i steps) (drop i answers)) where
  at_place : Alike P w (s ∷ drop (i + 1) steps) (given ∷ drop (i + 1) answers)
  at_place =
      subst (λ (xs : List Step). Alike P w xs (given ∷ drop (i + 1) answers)) (drop_more steps i s lt ∙ ap (λ (x : Step). x ∷ drop (i + 1) steps) (sym at))
      (subst (λ (xs : List (Option Shown)). Alike P w (drop i steps) xs) (drop_more answers i given under ∙ ap (λ (x : Option Shown). x ∷ drop (i + 1) answers) (sym given_at)) alike)

  pub place_differs : (agreed : Bool) → agreed ≡ false → Decides agreed (told ≡ given) → P → ⊥
  place_differs agreed is decides =
      alike_differs runs_are_one P w next s told given (drop (i + 1) steps) (drop (i + 1) answers) moves state at_place
      (λ same. let e : false ≡ true = sym is ∙ decides.1 same in absurd (cc))

  pub place_next : (agreed : Bool) → agreed ≡ true → Decides agreed (told ≡ given) → Alike P next (drop (i + 1) steps) (drop (i + 1) answers)
  place_next agreed is decides =
      alike_next runs_are_one P w next s told given (drop (i + 1) steps) (drop (i + 1) answers) moves state at_place (decides.0 is)

-- no place is left
pub place_end : (P : Type 0) (w : World) (steps : List Step) (answers : List (Option Shown)) (i : ℕ) → length steps ≤ i → length answers ≤ i → Alike P w (drop i steps) (drop i answers) → P
place_end P w steps answers i all every alike =
    alike_end P w
    (subst (λ (xs : List Step). Alike P w xs []) (drop_all i steps all)
    (subst (λ (xs : List (Option Shown)). Alike P w (drop i steps) xs) (drop_all i answers every) alike))
