use Rattle.std.proofs.Common.{◌≡◌, ◌++◌}
use Rattle.af_policy.specs.Uses.{use_rows}
use Rattle.af_policy.proofs.uses.use_rows.Given as goal

abbrev pub invariant-loop-name : goal.invariant-loop-name
invariant-loop-name l = l.rows.items ++ use_rows l.name-iterator ≡ use_rows l.fn.counts.entries
