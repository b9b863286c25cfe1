use Rattle.std.proofs.Common.{◌≡◌, take}
use Rattle.af_policy.specs.SharedRows.{seen}
use Rattle.af_policy.specs.Shown.{filled}
use Rattle.af_policy.proofs.shared.listing.fill_all.Given as goal

abbrev pub invariant-loop-row : goal.invariant-loop-row
invariant-loop-row g l = seen l.into.items ≡ filled l.bound (seen l.initial.into.items) (take l.row-index l.rows)
