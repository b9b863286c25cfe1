use Rattle.std.proofs.Common.{◌≡◌, ◌<◌, ◌+◌, ◌∙◌, sym, ap, arith, ℕ, List, [], ◌∷◌, ◌++◌, get_or, length, take, append_assoc}
use Rattle.std.proofs.lemmas.List.{take_more, take_all}
use Rattle.af_runs.specs.declared.instance.Instance.{Instance}
use Rattle.af_sched.specs.Placed.{Placed, placed_of}
use Rattle.af_sched.proofs.PlacedLemmas.{placed_here, length-placed_of}
use Rattle.af_sched.proofs.placed.place_run.Goals as goal

pub loop-place-preserved : goal.loop-place-preserved
loop-place-preserved c =
    let place : ℕ = c.loop-place.place in
    let rows : List Placed = placed_of c.args.tasks.now c.args.run.now in
    let first : place < length c.args.tasks.now = omega (arith, c.min-place-end.ensures) in
    let second : place < length c.args.run.now.instances = omega (arith, c.min-place-end.ensures, ap (length {A = Instance}) c.as_slice-instances.ensures) in
    let one : Placed = record { run = c.args.run.now; place = place; task = c.index-tasks-place.result; instance = c.index-instances-place.result } in
    let at : get_or rows place one ≡ one =
    placed_here c.args.tasks.now c.args.run.now place one c.index-tasks-place.result c.index-instances-place.result first second c.index-tasks-place.is (c.index-instances-place.is ∙ ap (λ (xs : List Instance). get_or xs place c.index-instances-place.result) c.as_slice-instances.ensures) in
    let inside : place < length rows = rw (length-placed_of c.args.tasks.now c.args.run.now) (omega arith) in
    let more : take (place + 1) rows ≡ take place rows ++ one ∷ [] = take_more rows place one inside ∙ ap (λ (q : Placed). take place rows ++ q ∷ []) at in
    c.in_ok-push.ensures.items
    ∙ ap (λ (xs : List Placed). xs ++ one ∷ []) c.loop-place.invariant
    ∙ append_assoc c.args.all.now.items (take place rows) (one ∷ [])
    ∙ ap (λ (xs : List Placed). c.args.all.now.items ++ xs) (sym more)

pub returns : goal.returns
returns c =
    let rows : List Placed = placed_of c.args.tasks.now c.args.run.now in
    let ended : take c.loop-place.place rows ≡ rows = take_all c.loop-place.place rows (omega (arith, length-placed_of c.args.tasks.now c.args.run.now, c.min-place-end.ensures, ap (length {A = Instance}) c.as_slice-instances.ensures)) in
    c.loop-place.invariant ∙ ap (λ (xs : List Placed). c.args.all.now.items ++ xs) ended
