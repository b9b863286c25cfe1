use Rattle.af_word_tests.proofs.tests.named.sessions_of_two_threads_see_one_list.Given as goal

-- the word that was just opened
abbrev pub ghosts-two_visits : goal.ghosts-two_visits
ghosts-two_visits g a = record { word = a.word }
