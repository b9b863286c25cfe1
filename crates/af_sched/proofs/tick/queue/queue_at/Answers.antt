use Rattle.std.proofs.Common.{ap, List, get_or}
use Rattle.af_runs.specs.declared.instance.Instance.{Instance}
use Rattle.af_sched.proofs.SeatLemmas.{with_seat-is_set, with_seat-nowhere}
use Rattle.af_sched.proofs.tick.queue.queue_at.Goals as goal

pub returns-in-Some : goal.returns-in-Some
returns-in-Some c =
    with_seat-is_set c.args.seat c.args.runs.now c.in-Some.row c.index-runs-row.result _ c.in-Some.ensures
    (ap (λ (xs : List Instance). record (get_or c.args.runs.now c.in-Some.row c.index-runs-row.result) { instances = xs }) c.queue_place.ensures)

pub returns-in_default : goal.returns-in_default
returns-in_default c = with_seat-nowhere c.args.seat c.args.runs.now c.in_default.ensures
