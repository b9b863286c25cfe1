use Rattle.std.proofs.Common.{◌≡◌, [], map}
use Rattle.af_role.specs.Pairs.{with_pairs}
use Rattle.af_role.proofs.permissions.Permissions.copied.Given as goal

abbrev pub invariant-loop-pair : goal.invariant-loop-pair
invariant-loop-pair l = l.made ≡ with_pairs [] (map (λ pair. pair.now) l.yielded)
