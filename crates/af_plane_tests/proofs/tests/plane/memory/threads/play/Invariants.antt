use Rattle.af_plane_tests.proofs.tests.plane.memory.threads.play.Given as goal

-- the parts that were just opened
abbrev pub ghosts-told_to_two : goal.ghosts-told_to_two
ghosts-told_to_two g a = record { name = record { site = a.parts.board; keeper = a.parts.plane.keeper.keeper; opening = a.parts.plane.ledger.opening; limit = a.parts.plane.ledger.audit.limit } }
