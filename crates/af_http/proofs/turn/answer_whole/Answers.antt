use Rattle.af_http.proofs.turn.answer_whole.Goals as goal

pub returns-in-Over : goal.returns-in-Over
returns-in-Over g c = (c.in-Over.field-1, c.in-Over.ensures.message, c.in-Over.ensures.left)

pub returns-in-Short : goal.returns-in-Short
returns-in-Short g c = absurd (c.requires.whole c.in-Short.field-0 c.in-Short.field-1 c.in-Short.ensures.message.0)
