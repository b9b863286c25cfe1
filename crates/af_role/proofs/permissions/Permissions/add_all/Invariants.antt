use Rattle.std.proofs.Common.{◌≡◌, map}
use Rattle.af_role.specs.Pairs.{with_pairs}
use Rattle.af_role.proofs.permissions.Permissions.add_all.Given as goal

abbrev pub invariant-loop-pair : goal.invariant-loop-pair
invariant-loop-pair l = l.self ≡ with_pairs l.initial.self (map (λ pair. pair.now) l.yielded)
