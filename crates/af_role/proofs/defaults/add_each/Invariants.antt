use Rattle.std.proofs.Common.{◌≡◌, take, map}
use Rattle.af_role.specs.Pairs.{on_kind, with_pairs}
use Rattle.af_role.proofs.defaults.add_each.Given as goal

abbrev pub invariant-loop-grant : goal.invariant-loop-grant
invariant-loop-grant l =
    l.permissions ≡ with_pairs l.initial.permissions (map (λ grant. on_kind grant.0 grant.1) (take l.grant-index l.grants))
