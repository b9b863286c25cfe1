use Rattle.std.proofs.Common.{◌≡◌, [], not, map}
use Rattle.std.specs.List.{filter}
use Rattle.af_role.specs.Pairs.{with_pairs}
use Rattle.af_role.specs.Access.{is_about}
use Rattle.af_role.proofs.permissions.Permissions.without_dag.Given as goal

abbrev pub invariant-loop-pair : goal.invariant-loop-pair
invariant-loop-pair l = l.kept ≡ with_pairs [] (filter (λ pair. not (is_about l.dag pair)) (map (λ pair. pair.now) l.yielded))
