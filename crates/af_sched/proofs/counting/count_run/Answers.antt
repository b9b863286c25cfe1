use Rattle.std.proofs.Common.{◌≡◌, ◌<◌, ◌+◌, ◌∙◌, sym, ap, subst, arith, ℕ, List, [], ◌∷◌, ◌++◌, get_or, length, take, append_assoc, append-nil}
use Rattle.std.proofs.lemmas.List.{take_more, take_all}
use Rattle.af_runs.specs.declared.instance.Instance.{Instance}
use Rattle.af_sched.specs.Counting.{counts_of}
use Rattle.af_sched.specs.Placed.{Placed, placed_of}
use Rattle.af_sched.proofs.PlacedLemmas.{placed_here, length-placed_of}
use Rattle.af_sched.proofs.counting.count_run.Goals as goal

pub loop-place-init : goal.loop-place-init
loop-place-init c = ((λ seen are. rw (append-nil seen) are), c.requires.long)

pub loop-place-preserved : goal.loop-place-preserved
loop-place-preserved c =
    let place : ℕ = c.loop-place.place in
    let all : List Placed = placed_of c.args.tasks.now c.args.run.now in
    let first : place < length c.args.tasks.now = omega (arith, c.min-place-end.ensures) in
    let second : place < length c.args.run.now.instances = omega (arith, c.min-place-end.ensures, ap (length {A = Instance}) c.as_slice-instances.ensures) in
    let one : Placed = record { run = c.args.run.now; place = place; task = c.index-tasks-place.result; instance = c.index-instances-place.result } in
    let at : get_or all place one ≡ one =
    placed_here c.args.tasks.now c.args.run.now place one c.index-tasks-place.result c.index-instances-place.result first second c.index-tasks-place.is (c.index-instances-place.is ∙ ap (λ (xs : List Instance). get_or xs place c.index-instances-place.result) c.as_slice-instances.ensures) in
    let inside : place < length all = rw (length-placed_of c.args.tasks.now c.args.run.now) (omega arith) in
    let more : take (place + 1) all ≡ take place all ++ one ∷ [] = take_more all place one inside ∙ ap (λ (q : Placed). take place all ++ q ∷ []) at in (
      (λ seen are.
          c.count.ensures.counts (seen ++ take place all) (c.loop-place.invariant.0 seen are)
          ∙ ap (λ (xs : List Placed). counts_of xs c.args.pools.now) (append_assoc seen (take place all) (one ∷ []) ∙ ap (λ (ys : List Placed). seen ++ ys) (sym more))),
      c.count.ensures.long,
    )

pub returns-clause-counts : goal.returns-clause-counts
returns-clause-counts c seen are =
    let all : List Placed = placed_of c.args.tasks.now c.args.run.now in
    let ended : take c.loop-place.place all ≡ all = take_all c.loop-place.place all (omega (arith, length-placed_of c.args.tasks.now c.args.run.now, c.min-place-end.ensures, ap (length {A = Instance}) c.as_slice-instances.ensures)) in
    subst (λ (xs : List Placed). c.loop-place.counts ≡ counts_of (seen ++ xs) c.args.pools.now) ended (c.loop-place.invariant.0 seen are)
