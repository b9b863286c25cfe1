use Rattle.std.proofs.Common.{◌≡◌, ◌<◌, ℕ, List, Option, Some, None, not, length, sym, ap, ◌∙◌, subst, ⊎_elim, inl, inr, arith}
use Rattle.std.specs.Prelude.{All}
use Rattle.std.specs.List.{find, range_with_len}
use Rattle.std.proofs.lemmas.List.Elements.{All-same}
use Rattle.std.proofs.lemmas.Result.{err_from_is_err_and}
use Rattle.af_graph.specs.Rows.{places, is_among, turned, IsWithin}
use Rattle.af_graph.specs.Graph.{named_rows, upstream_rows}
use Rattle.af_graph.specs.Order.{order_of}
use Rattle.af_graph.specs.Definition.{is_never_taken, at_place, has_bad_slots, no_task, too_many}
use Rattle.af_graph.specs.Steps.{told}
use Rattle.af_graph.specs.declared.task_spec.TaskSpec.{TaskSpec}
use Rattle.af_graph.proofs.RowLemmas.{length-turned}
use Rattle.af_graph.proofs.WiringLemmas.{named_within, length-named_rows, downstream_rows_is, upstream_rows_is, order_within, some_task, few_tasks, tell_duplicate, tell_unknown, tell_cycle, tell_bad_slots, tell_none, found_below, duplicate_told, unknown_told}
use Rattle.af_graph.proofs.wiring.Wiring.of.Goals as goal

-- the places that the code leaves over are those that the order never takes
left_is : (tasks : List TaskSpec) (named down up : List (List ℕ)) (order : List ℕ) (left : Option ℕ) → named ≡ named_rows tasks → down ≡ turned named → up ≡ turned down → order ≡ order_of up → left ≡ find (λ place. not (is_among order place)) (range_with_len 0 (length tasks)) → find (is_never_taken tasks) (places tasks) ≡ left
left_is tasks named down up order left named_is down_is up_is order_is left_of =
    ap (λ (taken : List ℕ). find (λ place. not (is_among taken place)) (range_with_len 0 (length tasks))) (sym (order_is ∙ ap order_of (upstream_rows_is tasks named down up named_is down_is up_is)))
    ∙ sym left_of

long : (tasks : List TaskSpec) (named down up : List (List ℕ)) → named ≡ named_rows tasks → down ≡ turned named → up ≡ turned down → (length down ≡ length tasks) × (length up ≡ length tasks)
long tasks named down up named_is down_is up_is =
    let of_down : length down ≡ length tasks =
    ap length down_is ∙ length-turned named ∙ ap length named_is ∙ length-named_rows tasks in
    (of_down, ap length up_is ∙ length-turned down ∙ of_down)

pub returns-in_err-index-clause-err : goal.returns-in_err-index-clause-err
returns-in_err-index-clause-err c =
    let tasks : List TaskSpec = c.args.tasks.now in
    let first : no_task tasks ≡ None = some_task tasks (sym c.is_empty.ensures ∙ c.if-is_empty.false) in
    let second : too_many tasks ≡ None = few_tasks tasks (omega arith) in
    let p = err_from_is_err_and c.from_residual.result c.from_residual.ensures.1 in
    rw (p.1, p.2) (⊎_elim (λ memory. inl memory) (λ said. let told_is = duplicate_told tasks c.in_err-index.field-0.0 said in inr (tell_duplicate tasks first second (told tasks c.in_err-index.field-0.0) told_is.0, told_is.1)) c.in_err-index.ensures.err)

pub returns-in_err-named-clause-err : goal.returns-in_err-named-clause-err
returns-in_err-named-clause-err c =
    let tasks : List TaskSpec = c.args.tasks.now in
    let first : no_task tasks ≡ None = some_task tasks (sym c.is_empty.ensures ∙ c.if-is_empty.false) in
    let second : too_many tasks ≡ None = few_tasks tasks (omega arith) in
    let p = err_from_is_err_and c.from_residual-in_err-named.result c.from_residual-in_err-named.ensures.1 in
    rw (p.1, p.2) (⊎_elim (λ memory. inl memory) (λ said. let told_is = unknown_told tasks c.in_err-named.field-0.0 said in inr (tell_unknown tasks first second c.in_ok-index.ensures.ok (told tasks c.in_err-named.field-0.0) told_is.0, told_is.1)) c.in_err-named.ensures.err)

pub of_links-requires-clause-within : goal.of_links-requires-clause-within
of_links-requires-clause-within c = subst IsWithin (sym c.in_ok-named.ensures.named) (named_within c.args.tasks.now)

pub of_links-requires-clause-few : goal.of_links-requires-clause-few
of_links-requires-clause-few c =
    omega (arith, ap length c.in_ok-named.ensures.named ∙ length-named_rows c.args.tasks.now)

pub first_left-requires : goal.first_left-requires
first_left-requires c =
    let tasks : List TaskSpec = c.args.tasks.now in
    let up : List (List ℕ) = c.in_ok-wiring.wiring.upstream in
    let count : length up ≡ length tasks =
    (long tasks c.in_ok-named.named c.in_ok-wiring.wiring.downstream up c.in_ok-named.ensures.named c.in_ok-wiring.ensures.downstream c.in_ok-wiring.ensures.upstream).1 in
    let P : ℕ → Type 0 = λ place. place < length tasks in
    let Q : ℕ → Type 0 = λ n. All (λ place. place < n) (order_of up) in
    All-same P c.as_slice.result.now (order_of up) (c.as_slice.ensures.value ∙ c.in_ok-wiring.ensures.order) (subst Q count (order_within (length up) up))

pub returns-in-Some-clause-err : goal.returns-in-Some-clause-err
returns-in-Some-clause-err c =
    let tasks : List TaskSpec = c.args.tasks.now in
    let first : no_task tasks ≡ None = some_task tasks (sym c.is_empty.ensures ∙ c.if-is_empty.false) in
    let second : too_many tasks ≡ None = few_tasks tasks (omega arith) in
    let never : find (is_never_taken tasks) (places tasks) ≡ Some c.in-Some.place =
    left_is tasks c.in_ok-named.named c.in_ok-wiring.wiring.downstream c.in_ok-wiring.wiring.upstream c.as_slice.result.now c.in_ok-place.field-0 c.in_ok-named.ensures.named c.in_ok-wiring.ensures.downstream c.in_ok-wiring.ensures.upstream (c.as_slice.ensures.value ∙ c.in_ok-wiring.ensures.order) c.in_ok-place.ensures
    ∙ c.in-Some.is in
    inr (tell_cycle tasks first second c.in_ok-index.ensures.ok c.in_ok-named.ensures.ok c.in-Some.place never, found_below tasks (is_never_taken tasks) c.in-Some.place never)

pub returns-in-Some-first_bad_slots-clause-err : goal.returns-in-Some-first_bad_slots-clause-err
returns-in-Some-first_bad_slots-clause-err c =
    let tasks : List TaskSpec = c.args.tasks.now in
    let place : ℕ = c.in-Some-first_bad_slots.place in
    let first : no_task tasks ≡ None = some_task tasks (sym c.is_empty.ensures ∙ c.if-is_empty.false) in
    let second : too_many tasks ≡ None = few_tasks tasks (omega arith) in
    let never : find (is_never_taken tasks) (places tasks) ≡ None =
    left_is tasks c.in_ok-named.named c.in_ok-wiring.wiring.downstream c.in_ok-wiring.wiring.upstream c.as_slice.result.now c.in_ok-place.field-0 c.in_ok-named.ensures.named c.in_ok-wiring.ensures.downstream c.in_ok-wiring.ensures.upstream (c.as_slice.ensures.value ∙ c.in_ok-wiring.ensures.order) c.in_ok-place.ensures
    ∙ c.in_default.is in
    let bad : find (at_place tasks has_bad_slots) (places tasks) ≡ Some place =
    sym c.in-Some-first_bad_slots.ensures in
    inr (tell_bad_slots tasks first second c.in_ok-index.ensures.ok c.in_ok-named.ensures.ok never place bad, found_below tasks (at_place tasks has_bad_slots) place bad)

pub returns-clause-wired : goal.returns-clause-wired
returns-clause-wired c =
    let tasks : List TaskSpec = c.args.tasks.now in
    let up_is : c.in_ok-wiring.wiring.upstream ≡ upstream_rows tasks =
    upstream_rows_is tasks c.in_ok-named.named c.in_ok-wiring.wiring.downstream c.in_ok-wiring.wiring.upstream c.in_ok-named.ensures.named c.in_ok-wiring.ensures.downstream c.in_ok-wiring.ensures.upstream in
    record {
      upstream = up_is;
      downstream = downstream_rows_is tasks c.in_ok-named.named c.in_ok-wiring.wiring.downstream c.in_ok-named.ensures.named c.in_ok-wiring.ensures.downstream;
      order = c.in_ok-wiring.ensures.order ∙ ap order_of up_is;
    }

pub returns-clause-ok : goal.returns-clause-ok
returns-clause-ok c =
    let tasks : List TaskSpec = c.args.tasks.now in
    let first : no_task tasks ≡ None = some_task tasks (sym c.is_empty.ensures ∙ c.if-is_empty.false) in
    let second : too_many tasks ≡ None = few_tasks tasks (omega arith) in
    let never : find (is_never_taken tasks) (places tasks) ≡ None =
    left_is tasks c.in_ok-named.named c.in_ok-wiring.wiring.downstream c.in_ok-wiring.wiring.upstream c.as_slice.result.now c.in_ok-place.field-0 c.in_ok-named.ensures.named c.in_ok-wiring.ensures.downstream c.in_ok-wiring.ensures.upstream (c.as_slice.ensures.value ∙ c.in_ok-wiring.ensures.order) c.in_ok-place.ensures
    ∙ c.in_default.is in
    tell_none tasks first second c.in_ok-index.ensures.ok c.in_ok-named.ensures.ok never (sym c.in_default-first_bad_slots.ensures)
