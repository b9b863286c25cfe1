use Rattle.std.proofs.Common.{◌≡◌, map}
use Rattle.af_role.specs.Pairs.{PairRow}
use Rattle.af_role.specs.Roles.{contains_pair}
use Rattle.af_role.specs.Masks.{allows}
use Rattle.af_role.proofs.mask.Mask.of.Given as goal

abbrev pub invariant-loop-pair : goal.invariant-loop-pair
invariant-loop-pair l = (pair : PairRow) → allows l.mask pair ≡ contains_pair (map (λ pair. pair.now) l.yielded) pair
