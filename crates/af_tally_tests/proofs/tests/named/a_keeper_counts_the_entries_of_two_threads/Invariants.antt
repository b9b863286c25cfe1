use Rattle.af_tally_tests.proofs.tests.named.a_keeper_counts_the_entries_of_two_threads.Given as goal

-- the keeper that was just opened
abbrev pub ghosts-two_sessions : goal.ghosts-two_sessions
ghosts-two_sessions g a = record { keeper = a.keeper.keeper }
