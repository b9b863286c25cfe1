use Rattle.std.proofs.Common.{◌≡◌, ◌<◌, ◌+◌, ◌∙◌, sym, ap, subst, arith, ℕ, List, [], ◌∷◌, ◌++◌, get_or, length, take, append_assoc, append-nil}
use Rattle.std.specs.Prelude.{IfSome, Option}
use Rattle.std.proofs.lemmas.List.{take_more, take_all}
use Rattle.af_runs.specs.declared.instance.Instance.{Instance}
use Rattle.af_sched.specs.Claims.{is_claimable}
use Rattle.af_sched.specs.Placed.{Placed, placed_of, IsFirstOf}
use Rattle.af_sched.specs.Steps.{first_with}
use Rattle.af_sched.specs.Weights.{StandsBefore}
use Rattle.af_sched.proofs.HeavyLemmas.{with_stands}
use Rattle.af_sched.proofs.PlacedLemmas.{get_or-placed_of, length-placed_of, some_at, IsFirstOf-with}
use Rattle.af_sched.proofs.state.claiming.first_after_run.Goals as goal

pub loop-place-init : goal.loop-place-init
loop-place-init c = ((λ seen is. rw (append-nil seen) is), c.requires)

pub loop-place-preserved : goal.loop-place-preserved
loop-place-preserved c =
    let place : ℕ = c.loop-place.place in
    let tasks = c.args.tasks.now in
    let instances : List Instance = c.args.run.now.instances in
    let all : List Placed = placed_of tasks c.args.run.now in
    let first : place < length tasks = omega (arith, c.min-place-end.ensures) in
    let second : place < length instances = omega (arith, c.min-place-end.ensures, ap (length {A = Instance}) c.as_slice-instances.ensures) in
    let inside : place < length all = rw (length-placed_of tasks c.args.run.now) (omega arith) in
    let d : Placed = some_at all place inside in
    let one : Placed = get_or all place d in
    let told : c.first_at-first.result ≡ first_with is_claimable c.loop-place.first one = c.first_at-first.ensures d in
    let is_one : one ≡ record { run = c.args.run.now; place = place; task = get_or tasks place d.task; instance = get_or instances place d.instance } = get_or-placed_of tasks c.args.run.now place d d.task d.instance first second in
    let more : take (place + 1) all ≡ take place all ++ one ∷ [] = take_more all place d inside in (
      (λ seen is.
          let lists : (seen ++ take place all) ++ one ∷ [] ≡ seen ++ take (place + 1) all = append_assoc seen (take place all) (one ∷ []) ∙ ap (λ (ys : List Placed). seen ++ ys) (sym more) in
          subst (λ (o : Option Placed). IsFirstOf is_claimable (seen ++ take (place + 1) all) o) (sym told)
          (subst (λ (xs : List Placed). IsFirstOf is_claimable xs (first_with is_claimable c.loop-place.first one)) lists
          (IsFirstOf-with is_claimable (seen ++ take place all) c.loop-place.first one (c.loop-place.invariant.0 seen is)))),
      subst (λ (o : Option Placed). IfSome o (StandsBefore c.args.run.now.number (place + 1))) (sym told)
          (subst (λ (p : Placed). IfSome (first_with is_claimable c.loop-place.first p) (StandsBefore c.args.run.now.number (place + 1))) (sym is_one)
          (with_stands c.loop-place.first (record { run = c.args.run.now; place = place; task = get_or tasks place d.task; instance = get_or instances place d.instance }) c.loop-place.invariant.1)),
    )

pub returns : goal.returns
returns c seen is =
    let all : List Placed = placed_of c.args.tasks.now c.args.run.now in
    let ended : take c.loop-place.place all ≡ all = take_all c.loop-place.place all (omega (arith, length-placed_of c.args.tasks.now c.args.run.now, c.min-place-end.ensures, ap (length {A = Instance}) c.as_slice-instances.ensures)) in
    subst (λ (xs : List Placed). IsFirstOf is_claimable (seen ++ xs) c.loop-place.first) ended (c.loop-place.invariant.0 seen is)
