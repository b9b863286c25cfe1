use Rattle.std.proofs.Common.{◌≡◌, None, take}
use Rattle.af_role.specs.Access.{bad_action}
use Rattle.af_role.proofs.access.bad_in_rows.Given as goal

abbrev pub invariant-loop-row : goal.invariant-loop-row
invariant-loop-row l = bad_action (take l.row-index l.rows) ≡ None
