use Rattle.std.proofs.Common.{◌≡◌, take}
use Rattle.af_vars.proofs.copying.copied.Given as goal

abbrev pub invariant-loop-place : goal.invariant-loop-place
invariant-loop-place l = l.copy.rows ≡ take l.place l.rows
