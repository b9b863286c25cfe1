use Rattle.std.proofs.Common.{◌≡◌, ◌-◌, ap, arith}
use Rattle.af_http.proofs.IncomingLemmas.{fills_more, fills_none}
use Rattle.af_http.proofs.StreamLemmas.{took_as, took_more, took_none}
use Rattle.af_http.proofs.gathering.gather_body.Goals as goal

pub loop-count-init : goal.loop-count-init
loop-count-init g c = (fills_none c.args.wanted _ c.args.incoming.now, took_as (omega arith) (took_none _), c.requires.short)

pub loop-count-preserved : goal.loop-count-preserved
loop-count-preserved g c =
    let h = c.in-Turns.ensures in
    let i = c.loop-count.invariant in
    (fills_more i.0 i.1 i.2 h.came h.took, took_as (omega (arith, c.loop-count.auto.count)) (took_more i.1 h.took), h.found)

pub returns-in_default : goal.returns-in_default
returns-in_default g c =
    let h = c.gather_body_once.ensures in
    let i = c.loop-count.invariant in
    record {
      came = fills_more i.0 i.1 i.2 h.came h.took;
      found = h.found;
      took = took_more i.1 h.took;
      few = omega (arith, c.loop-count-test.true, c.loop-count.auto.count);
      turns = λ is. absurd (c.in_default.not-Turns is);
    }

pub returns : goal.returns
returns g c =
    let i = c.loop-count.invariant in
    let few = c.requires.few in
    let top = c.loop-count.auto.count-end few in
    let all : c.loop-count.count ≡ 65536 = omega (arith, c.loop-count-test.false, top) in
    record {
      came = i.0;
      found = i.2;
      took = took_as (ap (λ n. n - c.args.before) all) i.1;
      few = omega (arith, few);
      turns = λ is. omega (arith, few);
    }
