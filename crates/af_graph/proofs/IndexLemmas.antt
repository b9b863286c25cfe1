-- Facts on the place of an id.
use Rattle.std.proofs.Common.{◌≡◌, ◌<◌, ◌≤◌, ◌+◌, ℕ, Bool, true, false, eqb, ltb, not, cond, List, [], ◌∷◌, ◌++◌, Some, None, Option, length, sym, refl, ap, ◌∙◌, subst, ⊎_elim, arith}
use Rattle.std.specs.Prelude.{is_some}
use Rattle.std.specs.List.{position, position_or_len}
use Rattle.std.specs.Str.{bytes_eq}
use Rattle.std.specs.Cmp.Lexicographic.{bytes_decides}
use Rattle.std.proofs.lemmas.Bool.{cases_Bool, cases_lt, cond-true, cond-false, lt-ltb, le-ltb, eq-eqb, ne_eqb}
use Rattle.std.proofs.lemmas.List.{length_push}
use Rattle.std.proofs.lemmas.List.Sums.{prefix_len-le-length}
use Rattle.std.proofs.lemmas.List.Folds.{position_or_len_push}
use Rattle.af_graph.specs.Graph.{place_of, same_name}
use Rattle.af_graph.specs.declared.task_spec.TaskSpec.{TaskSpec}

-- the first place, m of n, and the first place once there is one element more
position_step : (passes : Bool) (m n m' n' : ℕ) → m ≤ n → m' ≡ cond (eqb m n) (n + cond passes 0 1) m → n' ≡ n + 1 → cond (ltb m' n') (Some m') None ≡ cond (is_some (cond (ltb m n) (Some m) None)) (cond (ltb m n) (Some m) None) (cond passes (Some n) None)
position_step passes m n m' n' within step long =
    ⊎_elim
    (λ (lt : m < n). let before : ltb m n ≡ true = lt-ltb m n lt in let same : m' ≡ m = step ∙ cond-false (eqb m n) (n + cond passes 0 1) m (ne_eqb m n (λ e. absurd (omega arith))) in let after : ltb m' n' ≡ true = lt-ltb m' n' (omega arith) in rw (after, before) (ap Some same))
    (λ (ge : n ≤ m). let before : ltb m n ≡ false = le-ltb m n ge in let last : m ≡ n = omega arith in let next : m' ≡ n + cond passes 0 1 = step ∙ cond-true (eqb m n) (n + cond passes 0 1) m (eq-eqb m n last) in rw before (at_end passes next))
    (cases_lt m n)
  where
    at_end : (b : Bool) → m' ≡ n + cond b 0 1 → cond (ltb m' n') (Some m') None ≡ cond b (Some n) None
    at_end true next = let after : ltb m' n' ≡ true = lt-ltb m' n' (omega arith) in let same : m' ≡ n = omega arith in rw after (ap Some same)
    at_end false next = let after : ltb m' n' ≡ false = le-ltb m' n' (omega arith) in rw after refl

pub position_push : {X : Type 0} (p : X → Bool) (xs : List X) (y : X) → position p (xs ++ y ∷ []) ≡ cond (is_some (position p xs)) (position p xs) (cond (p y) (Some (length xs)) None)
position_push p xs y =
    position_step (p y) (position_or_len p xs) (length xs) (position_or_len p (xs ++ y ∷ [])) (length (xs ++ y ∷ [])) (prefix_len-le-length (λ x. not (p x)) xs) (position_or_len_push p xs y) (length_push xs y)

-- one task more is entered, whose id no task before it has
pub place_of_push : (tasks : List TaskSpec) (task : TaskSpec) (place : ℕ) (id : List ℕ) → length tasks ≡ place → place_of tasks task.task_id ≡ None → cond (bytes_eq task.task_id id) (Some place) (place_of tasks id) ≡ place_of (tasks ++ task ∷ []) id
place_of_push tasks task place id long absent =
    ⊎_elim
    (λ (e : bytes_eq task.task_id id ≡ true). let none : place_of tasks id ≡ None = subst (λ name. place_of tasks name ≡ None) ((bytes_decides task.task_id id).0 e) absent in cond-true (bytes_eq task.task_id id) (Some place) (place_of tasks id) e ∙ sym (pushed ∙ ap (λ o. cond (is_some o) o (cond (bytes_eq task.task_id id) (Some (length tasks)) None)) none ∙ cond-true (bytes_eq task.task_id id) (Some (length tasks)) None e ∙ ap Some long))
    (λ (e : bytes_eq task.task_id id ≡ false). cond-false (bytes_eq task.task_id id) (Some place) (place_of tasks id) e ∙ sym (pushed ∙ ap (λ b. cond (is_some (place_of tasks id)) (place_of tasks id) (cond b (Some (length tasks)) None)) e ∙ itself (place_of tasks id)))
    (cases_Bool (bytes_eq task.task_id id))
  where
    pushed : place_of (tasks ++ task ∷ []) id ≡ cond (is_some (place_of tasks id)) (place_of tasks id) (cond (bytes_eq task.task_id id) (Some (length tasks)) None)
    pushed = position_push (λ t. same_name t.task_id id) tasks task

    itself : (o : Option ℕ) → cond (is_some o) o None ≡ o
    itself None = refl
    itself (Some x) = refl
