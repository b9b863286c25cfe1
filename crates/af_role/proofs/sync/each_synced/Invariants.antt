use Rattle.std.proofs.Common.{◌≡◌, take, map}
use Rattle.af_role.specs.Access.{synced_role}
use Rattle.af_role.proofs.sync.each_synced.Given as goal

abbrev pub invariant-loop-role : goal.invariant-loop-role
invariant-loop-role l = l.made.items ≡ map (synced_role l.dag l.access) (take l.role-index l.roles)
