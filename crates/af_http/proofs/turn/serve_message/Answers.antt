use Rattle.std.proofs.Common.{[], sym}
use Rattle.std.proofs.lemmas.List.{append-nil}
use Rattle.af_http.proofs.SendLemmas.{put_nothing}
use Rattle.af_http.proofs.TurnLemmas.{message_turn}
use Rattle.af_http.proofs.AwaitLemmas.{awaits_none}
use Rattle.af_http.proofs.turn.serve_message.Goals as goal

pub returns-in-Over : goal.returns-in-Over
returns-in-Over g c =
    let held = c.args.connection.now.incoming in
    rw c.in-Over.ensures.left (
    message_turn g.S.Service.answers c.args.turn.used c.args.turn.count c.args.service.now _ _ held [] held _ _ _ c.answer_held.new.service
    c.args.size c.in-Over.field-1 c.in-Over.ended c.requires.head (sym (append-nil held)) (awaits_none c.args.turn.used _ held c.requires.used) (put_nothing _) c.requires.sound
    c.in-Over.ensures.message
    )
