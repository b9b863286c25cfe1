use Rattle.std.proofs.Common.{◌≡◌, ◌++◌, take, drop, map}
use Rattle.af_role.specs.Access.{synced_role}
use Rattle.af_policy.specs.SharedRows.{seen}
use Rattle.af_policy.proofs.role_sync.sync_each.Given as goal

abbrev pub invariant-loop-row : goal.invariant-loop-row
invariant-loop-row l = l.made ≡ map (synced_role l.dag l.access) (seen (take l.row-index l.rows)) ++ seen (drop l.row-index l.rows)
