use Rattle.std.proofs.Common.{◌∙◌, sym, ap, subst, ℕ, List, map, take, get_or}
use Rattle.std.proofs.lemmas.List.{take_more}
use Rattle.std.specs.List.Sorted.{IsStrictlySortedBy}
use Rattle.std.specs.Ordering.{nat_cmp}
use Rattle.af_runs.specs.declared.run.Run.{Run}
use Rattle.af_sched.specs.Choosing.{with_seat}
use Rattle.af_sched.specs.declared.seat.Seat.{Seat}
use Rattle.af_sched.proofs.SeatLemmas.{seated, seated-none, seated-more, numbers_kept}
use Rattle.af_sched.proofs.tick.queue.queue_all.Goals as goal

pub loop-seat-init : goal.loop-seat-init
loop-seat-init c = seated-none c.args.runs.now

pub queue_at-requires : goal.queue_at-requires
queue_at-requires c =
    subst (λ (numbers : List ℕ). IsStrictlySortedBy nat_cmp numbers)
    (sym (ap (map (λ (run : Run). run.number)) c.loop-seat.invariant ∙ numbers_kept (take c.loop-seat.seat-index c.as_slice-seat-items.result.now) c.args.runs.now))
    c.requires

pub loop-seat-preserved : goal.loop-seat-preserved
loop-seat-preserved c =
    let items : List Seat = c.as_slice-seat-items.result.now in
    let seats : List Seat = take c.loop-seat.seat-index items in
    let seat : Seat = get_or items c.loop-seat.seat-index _ in
    c.queue_at.ensures
    ∙ ap (map (with_seat seat)) c.loop-seat.invariant
    ∙ seated-more seats seat c.args.runs.now
    ∙ ap (λ (xs : List Seat). map (seated xs) c.args.runs.now) (sym (take_more items c.loop-seat.seat-index _ c.loop-seat-test.true))
