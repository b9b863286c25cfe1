use Rattle.std.proofs.Common.{◌≡◌, [], take}
use Rattle.std.specs.List.{flat_map}
use Rattle.af_role.specs.Pairs.{with_pairs}
use Rattle.af_policy.specs.Tables.{listed_of}
use Rattle.af_policy.proofs.role_table.RoleTable.joined_permissions.Given as goal

abbrev pub invariant-loop-name : goal.invariant-loop-name
invariant-loop-name l = l.all ≡ with_pairs [] (flat_map (listed_of l.self) (take l.name-index l.names))
