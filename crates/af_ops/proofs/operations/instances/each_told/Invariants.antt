use Rattle.std.proofs.Common.{◌≡◌, take}
use Rattle.af_ops.specs.Effects.{each_told}
use Rattle.af_ops.proofs.operations.instances.each_told.Given as goal

abbrev pub invariant-loop-place : goal.invariant-loop-place
invariant-loop-place l = l.all.items ≡ each_told l.run (take l.place l.tasks) (take l.place l.instances)
