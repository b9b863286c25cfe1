-- The plain search for faults: a task may be taken once the tasks of the ids that it names have been.
use Rattle.std.proofs.Common.{◌≡◌, ◌<◌, ◌&&◌, ℕ, suc, Bool, true, false, not, eqb, List, [], ◌∷◌, Option, Some, None, length, get_or, refl, sym, ap, ◌∙◌, subst, ⊎_elim, arith}
use Rattle.std.specs.Prelude.{All}
use Rattle.std.specs.List.{cons_option, filter_map, list_all}
use Rattle.std.specs.Option.{option_map_or}
use Rattle.std.proofs.lemmas.Bool.{cases_Bool, eqb-true, or_right, or_left, eq-eqb, and_parts}
use Rattle.std.proofs.lemmas.List.{get_or-map}
use Rattle.af_graph.specs.Rows.{places, row_at, is_among, arranged}
use Rattle.af_graph.specs.Graph.{place_of, named_rows, upstream_rows}
use Rattle.af_graph.specs.Order.{is_free}
use Rattle.af_graph.specs.Steps.{is_done}
use Rattle.af_graph.specs.declared.task_spec.TaskSpec.{TaskSpec}
use Rattle.af_graph.proofs.RowLemmas.{row_at-arranged, among-filter, among-places}
use Rattle.af_graph.proofs.WiringLemmas.{length-named_rows, named_within}

-- ---- tests of all of a list
both : (a b : Bool) → (a ≡ true → b ≡ true) → (b ≡ true → a ≡ true) → a ≡ b
both true b there back = sym (there refl)
both false true there back = back refl
both false false there back = refl

module _ (p : ℕ → Bool) where
  all_each : (xs : List ℕ) → list_all p xs ≡ true → (q : ℕ) → is_among xs q ≡ true → p q ≡ true
  all_each [] all q among = absurd (grind (arith, among))
  all_each (x ∷ xs) all q among =
      let parts = and_parts (p x) (list_all p xs) all in
      ⊎_elim
      (λ (yes : eqb x q ≡ true). subst (λ (n : ℕ). p n ≡ true) (eqb-true x q yes) parts.0)
      (λ (no : eqb x q ≡ false). all_each xs parts.1 q (sym (rw no refl) ∙ among))
      (cases_Bool (eqb x q))

  each_all : (xs : List ℕ) → ((q : ℕ) → is_among xs q ≡ true → p q ≡ true) → list_all p xs ≡ true
  each_all [] each = refl
  each_all (x ∷ xs) each =
      rw (each x (or_left (eqb x x) (is_among xs x) (eq-eqb x x refl))) (each_all xs (λ q e. each q (or_right (eqb x q) (is_among xs q) e)))

  all_members : (xs ys : List ℕ) → ((q : ℕ) → is_among xs q ≡ is_among ys q) → list_all p xs ≡ list_all p ys
  all_members xs ys same =
      both (list_all p xs) (list_all p ys)
      (λ all. each_all ys (λ q among. all_each xs all q (same q ∙ among)))
      (λ all. each_all xs (λ q among. all_each ys all q (sym (same q) ∙ among)))

among_all : (P : ℕ → Type 0) (xs : List ℕ) → All P xs → (q : ℕ) → is_among xs q ≡ true → P q
among_all P [] all q among = absurd (grind (arith, among))
among_all P (x ∷ xs) all q among =
    ⊎_elim
    (λ (yes : eqb x q ≡ true). subst P (eqb-true x q yes) (all 0 x (omega arith)))
    (λ (no : eqb x q ≡ false). among_all P xs (λ j d inside. all (suc j) d (omega arith)) q (sym (rw no refl) ∙ among))
    (cases_Bool (eqb x q))

-- ---- the ids that a task names
done_at : (taken : List ℕ) (o : Option ℕ) (rest : List ℕ) → (option_map_or (is_among taken) o true && list_all (is_among taken) rest) ≡ list_all (is_among taken) (cons_option o rest)
done_at taken None rest = refl
done_at taken (Some place) rest = refl

all_done : (tasks : List TaskSpec) (taken : List ℕ) (ids : List (List ℕ)) → list_all (is_done tasks taken) ids ≡ list_all (is_among taken) (filter_map (place_of tasks) ids)
all_done tasks taken [] = refl
all_done tasks taken (id ∷ ids) =
    ap (λ (b : Bool). is_done tasks taken id && b) (all_done tasks taken ids)
    ∙ done_at taken (place_of tasks id) (filter_map (place_of tasks) ids)

members_at : (b c : Bool) → (b ≡ true → c ≡ true) → (b && c) ≡ b
members_at true c both_are = both_are refl
members_at false c both_are = refl

-- a row has the places that it has once it is arranged
arranged_same : (tasks : List TaskSpec) (place : ℕ) → place < length tasks → (q : ℕ) → is_among (row_at (named_rows tasks) place) q ≡ is_among (row_at (arranged (named_rows tasks)) place) q
arranged_same tasks place inside q =
    let rows : List (List ℕ) = named_rows tasks in
    let row : List ℕ = row_at rows place in
    let here : place < length rows = omega (arith, length-named_rows tasks) in
    let within : All (λ (n : ℕ). n < length rows) row = named_within tasks place [] here in
    sym (
    ap (λ (xs : List ℕ). is_among xs q) (row_at-arranged rows place here)
    ∙ among-filter (is_among row) (places rows) q
    ∙ members_at (is_among row q) (is_among (places rows) q) (λ among. among-places rows q (among_all (λ (n : ℕ). n < length rows) row within q among))
    )

-- a task may be taken where it has not been, and those that it names have been
pub free_plain : (tasks : List TaskSpec) (taken : List ℕ) (place : ℕ) (d : TaskSpec) → place < length tasks → is_among taken place ≡ false → list_all (is_done tasks taken) (get_or tasks place d).upstream ≡ is_free (upstream_rows tasks) taken place
unfolding upstream_rows
free_plain tasks taken place d inside fresh =
    all_done tasks taken (get_or tasks place d).upstream
    ∙ ap (list_all (is_among taken)) (sym (get_or-map (λ (task : TaskSpec). filter_map (place_of tasks) task.upstream) tasks place d [] inside))
    ∙ all_members (is_among taken) (row_at (named_rows tasks) place) (row_at (arranged (named_rows tasks)) place) (arranged_same tasks place inside)
    ∙ ap (λ (b : Bool). not b && list_all (is_among taken) (row_at (arranged (named_rows tasks)) place)) (sym fresh)
