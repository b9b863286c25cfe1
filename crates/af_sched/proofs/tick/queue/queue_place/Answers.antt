use Rattle.std.proofs.Common.{◌∙◌, ap, arith, List, get_or, length}
use Rattle.af_runs.specs.declared.instance.Instance.{Instance}
use Rattle.af_sched.proofs.SeatLemmas.{set_queued, none_queued}
use Rattle.af_sched.proofs.tick.queue.queue_place.Goals as goal

pub returns-then-place-as_slice : goal.returns-then-place-as_slice
returns-then-place-as_slice c =
    let long = ap (length {A = Instance}) c.as_slice.ensures in
    none_queued c.args.instances.now c.args.place (omega arith)

pub returns : goal.returns
returns c =
    let long = ap (length {A = Instance}) c.as_slice.ensures in
    c.set.ensures
    ∙ set_queued c.args.instances.now c.args.place c.index-as_slice-place.result (omega arith)
    (c.index-as_slice-place.is ∙ ap (λ (xs : List Instance). get_or xs c.args.place c.index-as_slice-place.result) c.as_slice-2.ensures)
