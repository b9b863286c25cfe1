use Rattle.std.proofs.Common.{◌++◌, take, arith, ap, ◌∙◌}
use Rattle.std.proofs.lemmas.List.{take-append-drop}
use Rattle.af_http.proofs.SendLemmas.{put_held, put_over}
use Rattle.af_http.proofs.outgoing.Outgoing.put_over.Goals as goal

pub returns-clause-all : goal.returns-clause-all
returns-clause-all g c =
    put_over c.split_at.result.0.now c.split_at.result.1.now c.args.bytes.now
    (ap (λ t. t ++ c.split_at.result.1.now) c.split_at.ensures.front ∙ ap (λ t. take c.room.result c.args.bytes.now ++ t) c.split_at.ensures.back ∙ take-append-drop c.room.result c.args.bytes.now)
    (put_held 0 _ _ c.split_at.result.0.now (omega arith) (c.requires.sound) c.hold.ensures.held c.hold.ensures.same)
    c.flush.ensures.sent
    c.put_first.ensures

pub returns-clause-first : goal.returns-clause-first
returns-clause-first g c = λ room.
    let size = c.split_at.ensures.front_len in
    let len = c.room.ensures in
    put_over c.split_at.result.0.now c.split_at.result.1.now c.args.bytes.now
    (ap (λ t. t ++ c.split_at.result.1.now) c.split_at.ensures.front ∙ ap (λ t. take c.room.result c.args.bytes.now ++ t) c.split_at.ensures.back ∙ take-append-drop c.room.result c.args.bytes.now)
    (put_held 1 _ _ c.split_at.result.0.now (omega (arith, size, len, room)) (c.requires.sound) c.hold.ensures.held c.hold.ensures.same)
    c.flush.ensures.sent
    c.put_first.ensures
