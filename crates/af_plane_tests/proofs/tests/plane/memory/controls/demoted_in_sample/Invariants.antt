use Rattle.af_plane_tests.proofs.tests.plane.memory.controls.demoted_in_sample.Given as goal

-- the parts that were just opened
abbrev pub ghosts-demoted : goal.ghosts-demoted
ghosts-demoted g a = record { name = record { site = a.parts.board; keeper = a.parts.plane.keeper.keeper; opening = a.parts.plane.ledger.opening; limit = a.parts.plane.ledger.audit.limit } }
