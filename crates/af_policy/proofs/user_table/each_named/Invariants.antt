use Rattle.std.proofs.Common.{◌≡◌, take, map}
use Rattle.af_policy.specs.Tables.{name_row}
use Rattle.af_policy.proofs.user_table.each_named.Given as goal

abbrev pub invariant-loop-user : goal.invariant-loop-user
invariant-loop-user l = l.names.items ≡ map name_row (take l.user-index l.users)
