use Rattle.std.proofs.Common.{◌≡◌, ℕ, ◌+◌, List, true, take}
use Rattle.af_policy.specs.Uses.{count_in, is_counted, uses_in}
use Rattle.af_policy.proofs.mentions.add_each.Given as goal

abbrev pub invariant-loop-name : goal.invariant-loop-name
invariant-loop-name l = (other : List ℕ) → is_counted other ≡ true → count_in l.counts other ≡ count_in l.initial.counts other + uses_in (take l.name-index l.names) other
