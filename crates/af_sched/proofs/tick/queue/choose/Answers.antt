use Rattle.std.proofs.Common.{◌≡◌, ◌<◌, ◌≤◌, ◌+◌, ◌∙◌, ◌^◌, ◌-◌, min, sym, subst, arith, rules, ℕ, length, get_or}
use Rattle.af_pool.specs.Pools.{slots_of}
use Rattle.af_sched.specs.Placed.{Placed}
use Rattle.af_sched.proofs.ChoosingLemmas.{Choosing, Choosing-init, Choosing-ends, held_now, taken, passed}
use Rattle.af_sched.proofs.StartLemmas.{get_or-same}
use Rattle.af_sched.proofs.tick.queue.choose.Goals as goal
use Rattle.af_sched.proofs.tick.queue.choose.Goals.{then-needed-from+in_ok-push, else-needed-from}

pub loop-place-init : goal.loop-place-init
loop-place-init c are = rw c.new-seats.ensures.items (Choosing-init c.args.pools.now.rows c.args.all.now c.args.candidates.now are 0)

pub loop-place-preserved : goal.loop-place-preserved
loop-place-preserved c are =
    let i : ℕ = c.loop-place.place in
    let next : Placed = c.index-candidates-place.result in
    let here : (d : Placed) → get_or c.args.candidates.now i d ≡ next = λ d. get_or-same c.args.candidates.now i d next c.loop-place-test.true ∙ sym c.index-candidates-place.is in
    let so_far = c.loop-place.invariant are in
    let now = held_now c.args.pools.now.rows c.args.all.now c.args.candidates.now are i next c.loop-place-test.true here c.loop-place.held c.loop-place.seats.items so_far c.held_before-held.result c.held_before-held.ensures.same c.held_before-held.ensures.other in
    let sums : c.saturating_add-needed.result ≡ min (c.held_before-held.result + next.task.pool_slots) (2 ^ 64 - 1) = rw (sym c.next.view_is) (search rules) in
    let slots : c.from.result ≡ slots_of c.args.pools.now.rows next.task.pool = rw (sym c.next.view_is) (search rules) in
    let few : c.from.result < 2 ^ 32 = search rules in
    let few_too : slots_of c.args.pools.now.rows next.task.pool < 2 ^ 32 = rw (sym slots) few in
    elim c.if-needed-from.branch [
      | then-needed-from+in_ok-push w ↦
          let low : c.saturating_add-needed.result ≤ slots_of c.args.pools.now.rows next.task.pool = rw (sym slots) w.if-needed-from.true in
          let seat : w.seat.result ≡ record { number = next.run.number; place = next.place } = rw (sym c.next.view_is) (search rules) in
          rw (w.held-is, w.seats-is, w.in_ok-push.ensures.items, seat)
          (taken c.args.pools.now.rows c.args.all.now c.args.candidates.now are i next c.loop-place-test.true here c.loop-place.held c.loop-place.seats.items so_far c.held_before-held.result c.saturating_add-needed.result now sums few_too low)
      | else-needed-from w ↦
          let high : slots_of c.args.pools.now.rows next.task.pool < c.saturating_add-needed.result = rw (sym slots) w.if-needed-from.false in
          rw (w.held-is, w.seats-is)
          (passed c.args.pools.now.rows c.args.all.now c.args.candidates.now are i next c.loop-place-test.true here c.loop-place.held c.loop-place.seats.items so_far c.held_before-held.result c.saturating_add-needed.result now sums few_too high)
    ]

pub returns : goal.returns
returns c =
    let ended : c.loop-place.place ≡ length c.args.candidates.now = omega arith in
    Choosing-ends c.args.pools.now.rows c.args.all.now c.args.candidates.now c.requires c.loop-place.held c.loop-place.seats.items
    (subst (λ (n : ℕ). Choosing c.args.pools.now.rows c.args.all.now c.args.candidates.now c.requires n c.loop-place.held c.loop-place.seats.items) ended (c.loop-place.invariant c.requires))
