use Rattle.af_server_tests.proofs.tests.loopback.running.beside.Given as goal

-- the parts that were just opened
abbrev pub ghosts-serve : goal.ghosts-serve
ghosts-serve g a = record { name = record { site = a.parts.board; keeper = a.parts.plane.keeper.keeper; opening = a.parts.plane.ledger.opening; limit = a.parts.plane.ledger.audit.limit } }
