use Rattle.std.proofs.Common.{◌≡◌, take}
use Rattle.af_ops.specs.Effects.{cleared_told}
use Rattle.af_ops.proofs.operations.clearing.cleared_told.Given as goal

abbrev pub invariant-loop-it : goal.invariant-loop-it
invariant-loop-it l = l.all.items ≡ cleared_told l.tasks (take l.it-index l.chosen)
