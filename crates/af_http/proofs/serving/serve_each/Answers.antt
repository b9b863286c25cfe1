use Rattle.std.proofs.Common.{arith}
use Rattle.af_http.proofs.RunLemmas.{begun_none, begun_more, begun_ends}
use Rattle.af_http.proofs.EndLemmas.{goes_few}
use Rattle.af_http.proofs.serving.serve_each.Goals as goal

pub loop-count-init : goal.loop-count-init
loop-count-init g c = begun_none g.S.Service.answers _ _ _ _ c.requires.fresh c.requires.sound

pub loop-count-preserved : goal.loop-count-preserved
loop-count-preserved g c =
    begun_more g.S.Service.answers c.loop-count.count _ _ _ _ _ _ _ _ _ _ _ _ c.loop-count.invariant c.serve_one.ensures c.in-None.is

pub returns-in-Some : goal.returns-in-Some
returns-in-Some g c =
    begun_ends g.S.Service.answers c.loop-count.count _ _ _ _ _ _ _ _ _ _ _ c.in-Some.ended c.loop-count-test.true c.loop-count.invariant (rw c.in-Some.is at c.serve_one.ensures)

pub returns : goal.returns
returns g c =
    let b = c.loop-count.invariant in
    let few = goes_few 0 b.exchanges (omega arith) b.on in
    absurd (omega (arith, few, b.counted, c.loop-count-test.false))
