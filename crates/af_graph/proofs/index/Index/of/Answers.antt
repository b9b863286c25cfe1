use Rattle.std.proofs.Common.{◌≡◌, ◌<◌, ◌≤◌, ◌+◌, ◌++◌, ◌∷◌, [], ℕ, List, Option, Some, None, true, false, cond, length, get_or, take, sym, refl, ap, ◌∙◌, inr, below_more, arith}
use Rattle.std.specs.Prelude.{is_some}
use Rattle.std.specs.Option.{option_map, option_map_or}
use Rattle.std.specs.List.{slice_get}
use Rattle.std.specs.Str.{bytes_eq}
use Rattle.std.proofs.lemmas.Bool.{true≢false}
use Rattle.std.proofs.lemmas.List.{take_more, length-take-le}
use Rattle.std.proofs.lemmas.Option.{slice_get-get_or}
use Rattle.std.proofs.lemmas.Map.Text.{btree_map_updates_str}
use Rattle.af_graph.specs.Graph.{place_of}
use Rattle.af_graph.specs.Definition.{is_repeated, id_at}
use Rattle.af_graph.specs.declared.dag_fault.DagFault.TheVariants.{Duplicate}
use Rattle.af_graph.specs.declared.task_spec.TaskSpec.{TaskSpec}
use Rattle.af_graph.proofs.PlaceLemmas.{find_first, find_none}
use Rattle.af_graph.proofs.IndexLemmas.{place_of_push}
use Rattle.af_graph.proofs.index.Index.of.Goals as goal

-- the look-up that the insertion made, in the words of the definition
looked_up : (tasks : List TaskSpec) (place : ℕ) (task : TaskSpec) (old : Option ℕ) (name : List ℕ) → place < length tasks → task ≡ get_or tasks place task → name ≡ task.task_id → old ≡ place_of (take place tasks) name → is_some (place_of (take place tasks) (id_at tasks place)) ≡ is_some old
looked_up tasks place task old name inside is text was =
    let read : slice_get tasks place ≡ Some task = slice_get-get_or tasks place task inside ∙ ap Some (sym is) in
    let named : id_at tasks place ≡ name = ap (λ (o : Option TaskSpec). option_map_or (λ t. t.task_id) o []) read ∙ sym text in
    ap (λ (id : List ℕ). is_some (place_of (take place tasks) id)) named ∙ ap is_some (sym was)

none_is : (o : Option ℕ) → is_some o ≡ false → o ≡ None
none_is None e = refl
none_is (Some x) e = absurd (true≢false e)

pub returns-then-is_some-clause-err : goal.returns-then-is_some-clause-err
returns-then-is_some-clause-err c =
    let tasks = c.args.tasks.now in
    let place = c.loop-place.place in
    let inside : place < length tasks = omega arith in
    let repeated : is_repeated tasks place ≡ true =
    looked_up tasks place c.index-tasks-place.result c.in_ok-old.old c.as_str.result.now inside c.index-tasks-place.is c.as_str.ensures.text (c.in_ok-old.ensures.old ∙ c.loop-place.invariant.0 c.as_str.result.now)
    ∙ sym c.is_some.ensures
    ∙ c.if-is_some.true in
    inr (ap (option_map (λ p. Duplicate p)) (find_first (is_repeated tasks) 0 (length tasks) place (omega arith) (omega arith) (λ k _ below. c.loop-place.invariant.1 k below) repeated))

pub loop-place-preserved : goal.loop-place-preserved
loop-place-preserved c =
    let tasks = c.args.tasks.now in
    let place = c.loop-place.place in
    let task = c.index-tasks-place.result in
    let name = c.as_str.result.now in
    let inside : place < length tasks = omega arith in
    let more : take (place + 1) tasks ≡ take place tasks ++ task ∷ [] =
    take_more tasks place task inside
    ∙ ap (λ (t : TaskSpec). take place tasks ++ t ∷ []) (sym c.index-tasks-place.is) in
    let new_name : is_some c.in_ok-old.old ≡ false = sym c.is_some.ensures ∙ c.if-is_some.false in
    let was : c.in_ok-old.old ≡ place_of (take place tasks) name =
    c.in_ok-old.ensures.old ∙ c.loop-place.invariant.0 name in
    let absent : place_of (take place tasks) task.task_id ≡ None =
    ap (place_of (take place tasks)) (sym c.as_str.ensures.text) ∙ sym was ∙ none_is c.in_ok-old.old new_name in
    let fresh : is_repeated tasks place ≡ false =
    looked_up tasks place task c.in_ok-old.old name inside c.index-tasks-place.is c.as_str.ensures.text was ∙ new_name in
    let entered = λ (id : List ℕ). btree_map_updates_str name c.loop-place.index.places c.insert.new.self (Some place) c.in_ok-old.ensures.updates id in
    (λ id. entered id ∙ ap (λ (o : Option ℕ). cond (bytes_eq name id) (Some place) o) (c.loop-place.invariant.0 id) ∙ ap (λ (n : List ℕ). cond (bytes_eq n id) (Some place) (place_of (take place tasks) id)) c.as_str.ensures.text ∙ place_of_push (take place tasks) task place id (length-take-le place tasks (omega arith)) absent ∙ sym (ap (λ (ts : List TaskSpec). place_of ts id) more), below_more (λ k. is_repeated tasks k ≡ false) place c.loop-place.invariant.1 fresh)

pub returns-clause-ok : goal.returns-clause-ok
returns-clause-ok c =
    let tasks = c.args.tasks.now in
    let last : length tasks ≤ c.loop-place.place = omega arith in
    find_none (is_repeated tasks) 0 (length tasks) (λ k _ below. c.loop-place.invariant.1 k (omega arith))
