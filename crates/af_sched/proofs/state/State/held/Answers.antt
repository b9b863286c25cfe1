use Rattle.std.proofs.Common.{rules, ◌≡◌, ◌∙◌, ap, get_or, List}
use Rattle.std.specs.Prelude.{None, Some}
use Rattle.af_pool.specs.Pools.{pool_of}
use Rattle.af_sched.specs.declared.held.Held.{Held}
use Rattle.af_sched.proofs.CountLemmas.{held_found, held_nowhere, order_one}
use Rattle.af_sched.proofs.state.State.held.Goals as goal

pub returns-in_default : goal.returns-in_default
returns-in_default c =
    let none : pool_of c.args.self.now.rows.pools c.args.name.now ≡ None = search rules in
    held_nowhere c.args.self.now.rows c.args.name.now none

pub count_runs-requires-clause-in_order : goal.count_runs-requires-clause-in_order
count_runs-requires-clause-in_order c = rw c.from_ref.ensures.value (order_one c.in-Some.pool.now)

pub returns : goal.returns
returns c =
    let found : pool_of c.args.self.now.rows.pools c.args.name.now ≡ Some c.in-Some.pool.now = search rules in
    let one = held_found c.args.self.now.rows c.args.name.now c.in-Some.pool.now found in
    let told = rw (c.by_id.ensures, c.from_ref.ensures.value, ← c.self.view_is) at c.count_runs.ensures in
    let is = rw (← c.self.view_is) at one in
    rw (← c.self.view_is) (ap (λ (all : List Held). get_or all 0 record { queued = 0; running = 0 }) (told ∙ is))
