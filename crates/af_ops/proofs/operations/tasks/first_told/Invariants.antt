use Rattle.std.proofs.Common.{◌≡◌, take}
use Rattle.af_ops.specs.Effects.{first_told}
use Rattle.af_ops.proofs.operations.tasks.first_told.Given as goal

abbrev pub invariant-loop-place : goal.invariant-loop-place
invariant-loop-place l = l.all.items ≡ first_told l.dag.tasks (take l.place l.tasks)
