use Rattle.std.proofs.Common.{◌≡◌, take}
use Rattle.af_pool.proofs.copying.copied.Given as goal

abbrev pub invariant-loop-place : goal.invariant-loop-place
invariant-loop-place l = l.copy.rows ≡ take l.place l.rows
