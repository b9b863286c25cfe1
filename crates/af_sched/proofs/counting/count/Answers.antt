use Rattle.std.proofs.Common.{rules, ◌≡◌, ◌∙◌, ap, set, false}
use Rattle.af_base.specs.Places.{StandsAt}
use Rattle.af_pool.specs.Occupants.{holds_slots}
use Rattle.af_pool.specs.Pools.{name_of}
use Rattle.af_sched.specs.Placed.{Placed}
use Rattle.af_sched.proofs.CountLemmas.{counts-absent, counts-not_held, counts-there}
use Rattle.af_sched.proofs.counting.count.Goals as goal

pub returns-then-not-holds_slots-clause-counts : goal.returns-then-not-holds_slots-clause-counts
returns-then-not-holds_slots-clause-counts c =
    let x : Placed = record { run = c.placed.inside.run.now; place = c.placed.inside.place; task = c.placed.inside.task.now; instance = c.placed.inside.instance.now } in
    let not : holds_slots x.instance.state ≡ false = search rules in
    rw (← c.placed.view_is) (counts-not_held x c.args.pools.now c.args.counts.now not)

pub returns-in-Ok-clause-counts : goal.returns-in-Ok-clause-counts
returns-in-Ok-clause-counts c =
    let x : Placed = record { run = c.placed.inside.run.now; place = c.placed.inside.place; task = c.placed.inside.task.now; instance = c.placed.inside.instance.now } in
    let stands : StandsAt name_of c.args.pools.now x.task.pool c.in-Ok.place = rw c.as_str.ensures.text at c.in-Ok.ensures in
    rw (← c.placed.view_is) (λ seen are.
    ap (set c.args.counts.now c.in-Ok.place) c.with_slots.ensures ∙ counts-there x c.args.pools.now c.args.counts.now c.in-Ok.place _ stands seen are)

pub returns-in_default-clause-counts : goal.returns-in_default-clause-counts
returns-in_default-clause-counts c =
    let x : Placed = record { run = c.placed.inside.run.now; place = c.placed.inside.place; task = c.placed.inside.task.now; instance = c.placed.inside.instance.now } in
    let fits = rw c.as_str.ensures.text at c.in_default.ensures in
    rw (← c.placed.view_is) (counts-absent x c.args.pools.now c.args.counts.now fits.absent)
