use Rattle.std.proofs.Common.{◌≡◌, ℕ, ◌-◌, List, true, take}
use Rattle.af_policy.specs.Uses.{count_at, is_counted, uses_in}
use Rattle.af_policy.proofs.uses.Uses.take_all.Given as goal

abbrev pub invariant-loop-name : goal.invariant-loop-name
invariant-loop-name l = (other : List ℕ) → is_counted other ≡ true → count_at l.self other ≡ count_at l.initial.self other - uses_in (take l.name-index l.names) other
