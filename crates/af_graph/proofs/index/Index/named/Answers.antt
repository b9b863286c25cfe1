use Rattle.std.proofs.Common.{◌≡◌, ◌<◌, ◌≤◌, ◌+◌, ◌++◌, ◌∷◌, [], ℕ, List, Option, Some, Bool, true, false, Vec, Global, length, get_or, map, take, sym, ap, ◌∙◌, inr, below_more, arith}
use Rattle.std.specs.Prelude.{is_none}
use Rattle.std.specs.Option.{option_map, option_map_or}
use Rattle.std.specs.Bool.{⊤}
use Rattle.std.specs.List.{list_any, filter_map}
use Rattle.std.proofs.lemmas.List.{take_more, map_push}
use Rattle.std.proofs.lemmas.Option.{slice_get-get_or, MatchOption-at_some}
use Rattle.af_graph.specs.Graph.{place_of}
use Rattle.af_graph.specs.Definition.{at_place, names_nobody, is_nobody}
use Rattle.af_graph.specs.Steps.{place_in}
use Rattle.af_graph.specs.declared.dag_fault.DagFault.TheVariants.{UnknownUpstream}
use Rattle.af_graph.specs.declared.task_spec.TaskSpec.{TaskSpec}
use Rattle.af_graph.proofs.PlaceLemmas.{find_first, find_none}
use Rattle.af_graph.proofs.index.Index.named.Goals as goal

-- a task names nobody where the index misses one of its ids
misses : (look : List ℕ → Option ℕ) (tasks : List TaskSpec) → ((id : List ℕ) → look id ≡ place_of tasks id) → (task : TaskSpec) (ids : List (List ℕ)) → ids ≡ task.upstream → list_any (λ id. is_none (look id)) ids ≡ names_nobody tasks task
misses look tasks agree task ids is =
    let same : look ≡ place_of tasks = λ i id. agree id i in
    ap (λ (f : List ℕ → Option ℕ). list_any (λ id. is_none (f id)) ids) same ∙ ap (list_any (is_nobody tasks)) is

test_at : (tasks : List TaskSpec) (test : TaskSpec → Bool) (place : ℕ) (task : TaskSpec) → place < length tasks → task ≡ get_or tasks place task → at_place tasks test place ≡ test task
test_at tasks test place task inside is =
    ap (λ (o : Option TaskSpec). option_map_or test o false) (slice_get-get_or tasks place task inside ∙ ap Some (sym is))

pub returns-in_default-clause-err : goal.returns-in_default-clause-err
returns-in_default-clause-err c =
    let tasks = c.args.tasks.now in
    let place = c.loop-place.place in
    let task = c.index-tasks-place.result in
    let inside : place < length tasks = omega arith in
    let here : at_place tasks (names_nobody tasks) place ≡ true =
    test_at tasks (names_nobody tasks) place task inside c.index-tasks-place.is
    ∙ sym (misses (place_in c.args.self.now) tasks c.requires task c.as_slice.result.now c.as_slice.ensures)
    ∙ c.in_ok-row.ensures.none
    ∙ ap is_none c.in_default.is in
    inr (ap (option_map (λ p. UnknownUpstream p)) (find_first (at_place tasks (names_nobody tasks)) 0 (length tasks) place (omega arith) (omega arith) (λ k _ below. c.loop-place.invariant.1 k below) here))

pub loop-place-preserved : goal.loop-place-preserved
loop-place-preserved c =
    let tasks = c.args.tasks.now in
    let place = c.loop-place.place in
    let task = c.index-tasks-place.result in
    let inside : place < length tasks = omega arith in
    let look : List ℕ → Option ℕ = place_in c.args.self.now in
    let same : look ≡ place_of tasks = λ i id. c.requires id i in
    let seen : Vec ℕ Global → List ℕ = λ row. row.items in
    let named : TaskSpec → List ℕ = λ t. filter_map (place_of tasks) t.upstream in
    let more : take (place + 1) tasks ≡ take place tasks ++ task ∷ [] =
    take_more tasks place task inside
    ∙ ap (λ (t : TaskSpec). take place tasks ++ t ∷ []) (sym c.index-tasks-place.is) in
    let row_is : seen c.in-Some.row ≡ named task =
    MatchOption-at_some ⊤ (λ row. seen row ≡ filter_map look c.as_slice.result.now) c.in-Some.row c.in-Some.is c.in_ok-row.ensures.some
    ∙ ap (λ (f : List ℕ → Option ℕ). filter_map f c.as_slice.result.now) same
    ∙ ap (filter_map (place_of tasks)) c.as_slice.ensures in
    let rows : map seen c.push.new.self.items ≡ map named (take (place + 1) tasks) =
    ap (map seen) c.in_ok-push.ensures.items
    ∙ map_push seen c.loop-place.rows.items c.in-Some.row
    ∙ ap (λ (xs : List (List ℕ)). xs ++ seen c.in-Some.row ∷ []) c.loop-place.invariant.0
    ∙ ap (λ (x : List ℕ). map named (take place tasks) ++ x ∷ []) row_is
    ∙ sym (ap (map named) more ∙ map_push named (take place tasks) task) in
    let here : at_place tasks (names_nobody tasks) place ≡ false =
    test_at tasks (names_nobody tasks) place task inside c.index-tasks-place.is
    ∙ sym (misses look tasks c.requires task c.as_slice.result.now c.as_slice.ensures)
    ∙ c.in_ok-row.ensures.none
    ∙ ap is_none c.in-Some.is in
    (rows, below_more (λ k. at_place tasks (names_nobody tasks) k ≡ false) place c.loop-place.invariant.1 here)

pub returns-clause-ok : goal.returns-clause-ok
returns-clause-ok c =
    let tasks = c.args.tasks.now in
    let last : length tasks ≤ c.loop-place.place = omega arith in
    find_none (at_place tasks (names_nobody tasks)) 0 (length tasks) (λ k _ below. c.loop-place.invariant.1 k (omega arith))
