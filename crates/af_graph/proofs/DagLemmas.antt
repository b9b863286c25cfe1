-- What the order of a definition without a fault has.
use Rattle.std.proofs.Common.{◌≡◌, ◌<◌, ℕ, List, [], ◌∷◌, Some, None, Option, length, sym, refl, subst, arith}
use Rattle.std.specs.Prelude.{Contains}
use Rattle.std.specs.Option.{option_map}
use Rattle.std.specs.List.{find}
use Rattle.std.proofs.lemmas.Bool.{not-false}
use Rattle.std.proofs.lemmas.Option.{none-some}
use Rattle.af_graph.specs.Rows.{places, is_among}
use Rattle.af_graph.specs.Graph.{upstream_rows}
use Rattle.af_graph.specs.Order.{order_of, IsOrder}
use Rattle.af_graph.specs.Definition.{id_at, is_never_taken, first_of, no_task, too_many, duplicate, unknown_upstream, cycle, bad_slots, fault_of}
use Rattle.af_graph.specs.declared.task_spec.TaskSpec.{TaskSpec}
use Rattle.af_graph.specs.declared.dag_fault.DagFault.{DagFault}
use Rattle.af_graph.specs.declared.dag_fault.DagFault.TheVariants as fault
use Rattle.af_graph.proofs.PlaceLemmas.{find_nothing}
use Rattle.af_graph.proofs.OrderLemmas.{among_contains, order_is}

-- where no fault is told each one is absent
parts : (o : Option (DagFault (List ℕ))) (os : List (Option (DagFault (List ℕ)))) → first_of (o ∷ os) ≡ None → (o ≡ None) × (first_of os ≡ None)
parts None os e = (refl, e)
parts (Some f) os e = absurd (none-some f (sym e))

unmapped : (f : ℕ → DagFault (List ℕ)) (o : Option ℕ) → option_map f o ≡ None → o ≡ None
unmapped f None e = refl
unmapped f (Some place) e = absurd (none-some (f place) (sym e))

none_left : (tasks : List TaskSpec) → fault_of tasks ≡ None → find (is_never_taken tasks) (places tasks) ≡ None
none_left tasks e =
    let from_second = (parts (no_task tasks) (too_many tasks ∷ duplicate tasks ∷ unknown_upstream tasks ∷ cycle tasks ∷ bad_slots tasks ∷ []) e).1 in
    let from_third = (parts (too_many tasks) (duplicate tasks ∷ unknown_upstream tasks ∷ cycle tasks ∷ bad_slots tasks ∷ []) from_second).1 in
    let from_fourth = (parts (duplicate tasks) (unknown_upstream tasks ∷ cycle tasks ∷ bad_slots tasks ∷ []) from_third).1 in
    let from_fifth = (parts (unknown_upstream tasks) (cycle tasks ∷ bad_slots tasks ∷ []) from_fourth).1 in
    let fifth = (parts (cycle tasks) (bad_slots tasks ∷ []) from_fifth).0 in
    unmapped (λ place. fault.Cycle (id_at tasks place)) (find (is_never_taken tasks) (places tasks)) fifth

-- the order has each task
pub order_whole : (tasks : List TaskSpec) (order : List ℕ) → order ≡ order_of (upstream_rows tasks) → fault_of tasks ≡ None → (place : ℕ) → place < length tasks → Contains order place
order_whole tasks order is sound place below =
    let P : List ℕ → Type 0 = λ xs. Contains xs place in
    subst P (sym is) (among_contains (order_of (upstream_rows tasks)) place (not-false (is_among (order_of (upstream_rows tasks)) place) (find_nothing (is_never_taken tasks) 0 (length tasks) (none_left tasks sound) place (omega arith) (omega arith))))

pub order_ruled : (tasks : List TaskSpec) (order : List ℕ) → order ≡ order_of (upstream_rows tasks) → IsOrder (upstream_rows tasks) order
order_ruled tasks order is =
    subst (IsOrder (upstream_rows tasks)) (sym is) (order_is (upstream_rows tasks))
