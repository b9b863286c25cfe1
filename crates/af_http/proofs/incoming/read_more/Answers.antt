use Rattle.std.proofs.Common.{◌++◌, take, drop, ap, ◌∙◌, arith}
use Rattle.af_http.proofs.IncomingLemmas.{fill_more}
use Rattle.af_http.proofs.incoming.read_more.Goals as goal

pub returns-in-Ok-clause-came : goal.returns-in-Ok-clause-came
returns-in-Ok-clause-came g c =
    let n = c.in-Ok.count in
    let s = c.with_room-start.result.0 in
    let e = c.with_room-start.result.1 in
    let more = take n (drop e c.read_behind.new.bytes) in (
      more,
      record {
        came = c.in-Ok.ensures.came;
        kept =
            fill_more c.with_room-start.new.bytes c.read_behind.new.bytes s e n c.with_room-start.ensures.ordered (omega arith) c.read_behind.ensures.before
            ∙ ap (λ t. t ++ more) c.with_room-start.ensures.same;
      },
    )
