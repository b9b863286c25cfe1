use Rattle.std.proofs.Common.{◌≡◌}
use Rattle.af_board_tests.proofs.tests.playing.play_rows.Given as goal

-- both passes stay of the board's word
abbrev pub invariant-loop-row : goal.invariant-loop-row
invariant-loop-row g l = (l.one.word ≡ l.fn.board.word) × (l.two.word ≡ l.fn.board.word)
