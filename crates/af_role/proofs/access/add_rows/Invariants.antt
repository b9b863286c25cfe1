use Rattle.std.proofs.Common.{◌≡◌, take}
use Rattle.af_role.specs.Pairs.{with_pairs}
use Rattle.af_role.specs.Access.{listed_pairs}
use Rattle.af_role.proofs.access.add_rows.Given as goal

abbrev pub invariant-loop-row : goal.invariant-loop-row
invariant-loop-row l = l.permissions ≡ with_pairs l.initial.permissions (listed_pairs l.dag (take l.row-index l.rows) l.role)
