use Rattle.std.proofs.Common.{refl}
use Rattle.af_http.proofs.SendLemmas.{grew_also, some_left, wrote_all, wrote_fault, wrote_more}
use Rattle.af_http.proofs.writing.write_all.Goals as goal

pub loop-rest-preserved : goal.loop-rest-preserved
loop-rest-preserved g c =
    let h = c.in_ok-count.ensures in
    wrote_more (g.W.Sink.taken c.args.writer.now) (g.W.Sink.taken c.loop-rest.writer) (g.W.Sink.taken c.write_some.new.writer) c.args.bytes.now c.loop-rest.rest.now c.split_at.result.1.now c.in_ok-count.count c.loop-rest.invariant h.wrote h.grew c.split_at.ensures.back

pub returns-in_err-count : goal.returns-in_err-count
returns-in_err-count g c =
    let h = c.in_err-count.ensures in
    let i = c.loop-rest.invariant in
    record {
      wrote = wrote_fault (g.W.Sink.taken c.args.writer.now) (g.W.Sink.taken c.loop-rest.writer) (g.W.Sink.taken c.write_some.new.writer) c.args.bytes.now c.loop-rest.rest.now c.from_residual.result c.from_residual.ensures.0 i h.failed;
      grew = grew_also i.2 h.grew;
      none = λ none. absurd (some_left c.args.bytes.now i.0.0 c.loop-rest.rest.now i.0.1 c.loop-rest-test.ensures none);
    }

pub returns : goal.returns
returns g c =
    let i = c.loop-rest.invariant in
    record { wrote = wrote_all (g.W.Sink.taken c.args.writer.now) (g.W.Sink.taken c.loop-rest.writer) c.args.bytes.now c.loop-rest.rest.now c.loop-rest-test.ensures i; grew = i.2; none = λ none. refl }
