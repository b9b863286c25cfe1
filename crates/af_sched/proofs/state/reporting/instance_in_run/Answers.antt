use Rattle.std.proofs.Common.{◌≡◌, ◌<◌, ◌≤◌, ◌∙◌, sym, ap, subst, arith, ℕ, List, get_or, length, ⊎_elim, false, Some}
use Rattle.std.proofs.lemmas.Bool.{cases_lt}
use Rattle.af_runs.specs.declared.instance.Instance.{Instance}
use Rattle.af_names.proofs.OrderLemmas.{find-none}
use Rattle.af_sched.specs.Placed.{Placed, placed_of}
use Rattle.af_sched.specs.Reports.{is_claimed}
use Rattle.af_sched.proofs.PlacedLemmas.{find-first, placed_here, length-placed_of}
use Rattle.af_sched.proofs.state.reporting.instance_in_run.Goals as goal

pub returns-then-is_claimed : goal.returns-then-is_claimed
returns-then-is_claimed c =
    let place : ℕ = c.loop-place.place in
    let one : Placed = record { run = c.args.run.now; place = place; task = c.index-tasks-place.result; instance = c.index-instances-place.result } in
    let first : place < length c.args.tasks.now = omega (arith, c.min-place-end.ensures) in
    let second : place < length c.args.run.now.instances = omega (arith, c.min-place-end.ensures, ap (length {A = Instance}) c.as_slice-instances.ensures) in
    let at : get_or (placed_of c.args.tasks.now c.args.run.now) place one ≡ one =
    placed_here c.args.tasks.now c.args.run.now place one c.index-tasks-place.result c.index-instances-place.result first second c.index-tasks-place.is (c.index-instances-place.is ∙ ap (λ (xs : List Instance). get_or xs place c.index-instances-place.result) c.as_slice-instances.ensures) in
    let inside : place < length (placed_of c.args.tasks.now c.args.run.now) = rw (length-placed_of c.args.tasks.now c.args.run.now) (omega arith) in
    sym (find-first (is_claimed c.args.claim.now) (placed_of c.args.tasks.now c.args.run.now) place one inside c.loop-place.invariant (ap (is_claimed c.args.claim.now) at ∙ sym c.is_claimed.ensures ∙ c.if-is_claimed.true) ∙ ap Some at)

pub loop-place-preserved : goal.loop-place-preserved
loop-place-preserved c j d below =
    let place : ℕ = c.loop-place.place in
    let first : place < length c.args.tasks.now = omega (arith, c.min-place-end.ensures) in
    let second : place < length c.args.run.now.instances = omega (arith, c.min-place-end.ensures, ap (length {A = Instance}) c.as_slice-instances.ensures) in
    let one : Placed = record { run = c.args.run.now; place = place; task = c.index-tasks-place.result; instance = c.index-instances-place.result } in
    let at : get_or (placed_of c.args.tasks.now c.args.run.now) place d ≡ one =
    placed_here c.args.tasks.now c.args.run.now place d c.index-tasks-place.result c.index-instances-place.result first second c.index-tasks-place.is (c.index-instances-place.is ∙ ap (λ (xs : List Instance). get_or xs place c.index-instances-place.result) c.as_slice-instances.ensures) in
    ⊎_elim
    (λ (earlier : j < place). c.loop-place.invariant j d earlier)
    (λ (last : place ≤ j). let same : place ≡ j = omega arith in
    subst (λ (n : ℕ). is_claimed c.args.claim.now (get_or (placed_of c.args.tasks.now c.args.run.now) n d) ≡ false) same (ap (is_claimed c.args.claim.now) at ∙ sym c.is_claimed.ensures ∙ c.if-is_claimed.false))
    (cases_lt j place)

pub returns : goal.returns
returns c =
    sym (find-none (is_claimed c.args.claim.now) (placed_of c.args.tasks.now c.args.run.now) (λ j d inside. c.loop-place.invariant j d (omega (arith, inside, length-placed_of c.args.tasks.now c.args.run.now, c.min-place-end.ensures, ap (length {A = Instance}) c.as_slice-instances.ensures))))
