use Rattle.std.proofs.Common.{◌≡◌}
use Rattle.af_board_tests.proofs.tests.raced.made.Given as goal

-- the pass stays of the board's word
abbrev pub invariant-loop : goal.invariant-loop
invariant-loop g l = l.pass.word ≡ l.fn.board.word
