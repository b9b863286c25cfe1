use Rattle.af_http.proofs.turn.answer_held.Goals as goal

pub returns-in-Over-clause-message : goal.returns-in-Over-clause-message
returns-in-Over-clause-message g c = rw (← c.as_slice.ensures) c.in-Over.ensures
