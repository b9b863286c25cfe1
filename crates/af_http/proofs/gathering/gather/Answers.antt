use Rattle.std.proofs.Common.{◌≡◌, arith, refl}
use Rattle.af_http.proofs.IncomingLemmas.{holds_more, holds_none}
use Rattle.af_http.proofs.StreamLemmas.{took_as, took_more, took_none}
use Rattle.af_http.proofs.gathering.gather.Goals as goal

pub loop-count-init : goal.loop-count-init
loop-count-init g c = (holds_none _ c.args.incoming.now, took_none _, c.requires.open, c.requires.short)

pub loop-count-preserved : goal.loop-count-preserved
loop-count-preserved g c =
    let h = c.in-Turns.ensures in
    let i = c.loop-count.invariant in
    (holds_more i.0 i.1 i.2 h.holds h.took, took_more i.1 h.took, h.found, h.short refl)

pub returns-in_default : goal.returns-in_default
returns-in_default g c =
    let h = c.gather_once.ensures in
    let i = c.loop-count.invariant in
    record {
      holds = holds_more i.0 i.1 i.2 h.holds h.took;
      found = h.found;
      took = took_more i.1 h.took;
      few = omega (arith, c.loop-count-test.true);
      turns = λ is. absurd (c.in_default.not-Turns is);
    }

pub returns : goal.returns
returns g c =
    let i = c.loop-count.invariant in
    let all : c.loop-count.count ≡ 65536 = omega (arith, c.loop-count-test.false, c.loop-count.auto.count-end) in
    record { holds = i.0; found = i.2; took = took_as all i.1; few = omega arith; turns = λ is. refl }
