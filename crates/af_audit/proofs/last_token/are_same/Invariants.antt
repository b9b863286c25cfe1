use Rattle.std.proofs.Common.{◌≡◌, true, take}
use Rattle.af_audit.proofs.last_token.are_same.Given as goal

-- the first bytes are the same, so far as it is not known that some differ
abbrev pub invariant-loop-at : goal.invariant-loop-at
invariant-loop-at l = (l.same ≡ true → take l.at l.left ≡ take l.at l.right) × (l.left ≡ l.right → l.same ≡ true)
