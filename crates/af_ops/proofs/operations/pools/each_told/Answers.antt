use Rattle.std.proofs.Common.{◌∙◌, arith, get_or}
use Rattle.af_pool.specs.declared.pool.Pool.{Pool}
use Rattle.af_sched.specs.declared.held.Held.{Held}
use Rattle.af_ops.specs.Rows.{PoolTold}
use Rattle.af_ops.proofs.TaskLemmas.{same_at, zipped_all, zipped_push}
use Rattle.af_ops.proofs.operations.pools.each_told.Goals as goal

beside : Pool × Held → PoolTold
beside at = record { name = at.0.name; slots = at.0.slots; held = at.1 }

pub loop-place-preserved : goal.loop-place-preserved
unfolding beside
loop-place-preserved c =
    let none : Held = record { queued = 0; running = 0 } in
    let held = get_or c.args.held.now c.loop-place.place none in
    zipped_push beside c.args.pools.now c.args.held.now c.loop-place.place c.index-pools-place.result held c.loop-place.all.items c.push.new.self.items c.beside.result
    (omega arith) (omega arith) c.index-pools-place.is (same_at c.args.held.now c.loop-place.place none held (omega arith)) c.loop-place.invariant c.beside.ensures c.in_ok-push.ensures.items

pub returns : goal.returns
unfolding beside
returns c =
    c.loop-place.invariant ∙ zipped_all beside c.args.pools.now c.args.held.now c.loop-place.place (λ i one other. omega (arith, one, other))
