use Rattle.std.proofs.Common.{◌≡◌}
use Rattle.af_word_tests.proofs.tests.raced.hundred_won.Given as goal

-- the pass stays one of the word
abbrev pub invariant-loop : goal.invariant-loop
invariant-loop l = l.pass.word ≡ l.fn.word
