use Rattle.std.proofs.Common.{◌≡◌, take}
use Rattle.af_ops.specs.PoolEffects.{listed}
use Rattle.af_ops.proofs.operations.pools.each_told.Given as goal

abbrev pub invariant-loop-place : goal.invariant-loop-place
invariant-loop-place l = l.all.items ≡ listed (take l.place l.pools) (take l.place l.held)
