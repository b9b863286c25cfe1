use Rattle.std.proofs.Common.{ap, arith, length, ◌∙◌, Some, slice_index_or, slice_set}
use Rattle.af_server.proofs.ReportLemmas.{get_below, get_found, set_back, taken_on, within_more}
use Rattle.af_server.proofs.worker_reports.take_in_each.Goals as goal

pub loop-i-preserved : goal.loop-i-preserved
loop-i-preserved g c =
    let inv = c.loop-i.invariant in
    let slots = c.loop-i.slots in
    let found = slice_index_or slots c.loop-i.i c.index-slots-i.result in
    let so_many = ap length inv.0 in
    let is = get_found slots c.loop-i.i c.index-slots-i.result (omega (arith, so_many, c.loop-i-test.true)) c.index-slots-i.is ∙ ap (λ x. Some x) c.index-slots-i.is in (
      ap (λ x. slice_set slots c.loop-i.i x) c.take_in.ensures.same ∙ (set_back slots c.loop-i.i found is ∙ inv.0),
      taken_on c.args.closed.now c.loop-i.closed c.take_in.new.closed inv.1 c.take_in.ensures.taken,
      within_more slots c.args.slots.now found c.loop-i.i c.loop-i.closed c.take_in.new.closed inv.0 is c.take_in.ensures.within c.take_in.ensures.taken inv.2,
    )

pub returns-clause-within : goal.returns-clause-within
returns-clause-within g c =
    λ i worker is. c.loop-i.invariant.2 i worker (omega (arith, get_below c.args.slots.now i _ is, c.loop-i-test.false)) is
