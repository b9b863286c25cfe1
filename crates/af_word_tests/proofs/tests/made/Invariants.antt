use Rattle.std.proofs.Common.{◌≡◌}
use Rattle.af_word_tests.proofs.tests.made.Given as goal

-- both passes stay of the word
abbrev pub invariant-loop-by : goal.invariant-loop-by
invariant-loop-by g l = (l.one.word ≡ l.fn.word) × (l.two.word ≡ l.fn.word)
