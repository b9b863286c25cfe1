use Rattle.std.proofs.Common.{◌≡◌, ℕ, List, true, take}
use Rattle.af_policy.specs.Uses.{count_in, is_counted, mentions}
use Rattle.af_policy.proofs.mentions.mentions_of.Given as goal

abbrev pub invariant-loop-user : goal.invariant-loop-user
invariant-loop-user l = (role : List ℕ) → is_counted role ≡ true → count_in l.counts role ≡ mentions (take l.user-index l.users) role
